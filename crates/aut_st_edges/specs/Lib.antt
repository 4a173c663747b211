-- Transitions in a slice of words.
pub mod Clauses
