-- A line in a book that runs, and what it is told to do: what is asked and promised.
pub mod Clauses
