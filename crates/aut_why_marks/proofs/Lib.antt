pub mod Columns
pub mod Loops
