-- Interning in code: what an answer says in the words of the steps, and what is asked of the tables.
pub mod Clauses
