-- Fresh packets at a state: what is asked and what is promised.
pub mod Clauses
