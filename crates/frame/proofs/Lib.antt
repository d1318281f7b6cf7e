pub mod Steps
pub mod History
pub mod Runs
pub mod Refusals
pub mod Unique
pub mod Examples
