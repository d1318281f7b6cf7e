pub mod Digits
pub mod Lines
pub mod Spelt
pub mod Unique
