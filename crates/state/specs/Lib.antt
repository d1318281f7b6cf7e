pub mod Events
pub mod Update
pub mod Ranges
pub mod Served
pub mod Spans
pub mod Sound
