-- Lemmas for the proofs of this crate.
pub mod Operands
pub mod ByKind
