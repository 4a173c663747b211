-- Lemmas for the proofs of this crate.
pub mod Joins
pub mod Xor
