-- A turn of the search: what is asked and what is promised.
pub mod Clauses
