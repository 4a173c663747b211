-- what the proofs of several functions use
pub mod Doing
