pub mod Expands
