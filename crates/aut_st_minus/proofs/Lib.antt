-- Lemmas for the proofs of this crate.
pub mod Single
pub mod Loops
