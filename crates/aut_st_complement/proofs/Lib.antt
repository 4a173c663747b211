-- Lemmas for the proofs of this crate.
pub mod Cover
pub mod Join
