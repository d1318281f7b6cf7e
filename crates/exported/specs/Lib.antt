pub mod Numbers
pub mod Scene
pub mod Traffic
