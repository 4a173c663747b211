-- What the proofs of several functions use; and that what is written is what 01 says of the whole of standard input.
pub mod Whole
