pub mod Holding
pub mod Intake
pub mod Numbers
pub mod Scan
pub mod Text
pub mod Words
