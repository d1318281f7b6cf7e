pub mod KeepsSound
pub mod Refusals
pub mod Unique
pub mod Witness
