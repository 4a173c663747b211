-- The beginning of a run: what is asked and promised.
pub mod Clauses
