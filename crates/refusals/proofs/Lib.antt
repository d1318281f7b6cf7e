pub mod Judging
pub mod Numbers
pub mod Unique
