-- The words of an image: what the functions ask and promise.
pub mod Clauses
