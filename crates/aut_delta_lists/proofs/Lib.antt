-- Lemmas for the proofs of this crate.
pub mod Each
pub mod Waiting
pub mod Stored
pub mod Alone
