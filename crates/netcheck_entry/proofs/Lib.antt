-- What the proofs of the entry use.
pub mod Lines
