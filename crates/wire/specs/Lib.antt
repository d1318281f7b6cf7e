pub mod Crc
pub mod Data
pub mod Pid
pub mod Token
pub mod Wide
