-- Loops over transition lists: what is made of a transition, and what is asked.
pub mod Clauses
pub mod Asked
