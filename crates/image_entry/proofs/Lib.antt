-- What the proofs of the entries use.
pub mod Lines
