-- The rounds of `why` in code: what is asked and what is promised.
pub mod Clauses
