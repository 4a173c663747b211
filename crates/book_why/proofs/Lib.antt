pub mod Picking
pub mod Writing
