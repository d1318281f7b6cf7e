pub mod Frames
pub mod History
