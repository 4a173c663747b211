-- A line of a book in code: what is asked, and what is promised.
pub mod Clauses
