pub mod Calls
pub mod Steps
pub mod Example
pub mod Numbers
