-- A constructor line in code: what its words say in those of the steps, what is asked, and what is promised.
pub mod Clauses
