-- A run kept as an image in code: what is asked and promised.
pub mod Clauses
