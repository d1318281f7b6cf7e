pub mod Capture
pub mod Listing
pub mod SetUp
