-- Nodes read from an image: what the functions ask and promise.
pub mod Clauses
