-- The blocks of an image: what the functions promise.
pub mod Clauses
