pub mod Forms
pub mod Script
