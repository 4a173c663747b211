-- The states reached: what is asked and what is promised.
pub mod Clauses
