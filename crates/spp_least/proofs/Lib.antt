-- what the proofs of the functions use
pub mod Numbers
pub mod First
pub mod LedTurn
pub mod Reuse
