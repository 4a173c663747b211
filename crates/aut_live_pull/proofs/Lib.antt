pub mod Settling
pub mod SettlingLoops
