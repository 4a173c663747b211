pub mod Turns
mod Emptied
