-- The list of a state by kind, from what stands in the tables: what is asked.
pub mod Clauses
