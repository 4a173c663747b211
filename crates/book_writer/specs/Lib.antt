-- Answers written into the output.
pub mod Clauses
