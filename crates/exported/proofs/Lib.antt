pub mod Cutting
pub mod Turns
pub mod Unique
