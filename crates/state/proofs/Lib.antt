pub mod Ends
pub mod Kept
pub mod Sharing
pub mod Survey
pub mod Tested
pub mod Unique
pub mod Updates
pub mod Zero
