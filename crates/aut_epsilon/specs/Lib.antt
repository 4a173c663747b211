-- epsilon in code: what the answers say in the words of the steps, and what is asked.
pub mod Clauses
pub mod Asked
