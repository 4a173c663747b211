-- Lemmas for the proofs of this crate.
pub mod Finding
pub mod Parts
pub mod Decimal
pub mod Tables
pub mod Saying
