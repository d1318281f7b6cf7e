pub mod Answers
pub mod Device
pub mod Records
pub mod Buffers
