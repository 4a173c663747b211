-- The words of a book's constructor lines in code.
pub mod Clauses  -- each word as the word of the steps
