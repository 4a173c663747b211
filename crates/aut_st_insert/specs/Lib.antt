-- The insertion of a transition (st_insert): what its answers say, what is asked and what is left.
pub mod Clauses
pub mod Asked
