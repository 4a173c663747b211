-- The walk along the transitions of a state: what is asked and what is promised.
pub mod Clauses
