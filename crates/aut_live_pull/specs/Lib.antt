-- The work list: what is asked and what is promised.
pub mod Clauses
