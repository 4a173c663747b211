-- what the proofs of several functions use
pub mod Mapped
pub mod Lines
pub mod Whole
