-- Lemmas for the proofs of this crate.
pub mod Join
pub mod Calls
pub mod Placing
pub mod Halves
pub mod Walking
