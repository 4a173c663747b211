-- what the proofs of the functions use, and what a caller needs of the cache
pub mod Cleared
pub mod Whole
pub mod Keeps
