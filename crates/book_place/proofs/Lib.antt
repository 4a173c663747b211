-- what the proofs of several functions use
pub mod Names
pub mod Telling
