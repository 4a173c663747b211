-- The states of an image in code: what the functions ask and promise.
pub mod Clauses
