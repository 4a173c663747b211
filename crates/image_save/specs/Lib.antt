-- The image of a place, written: what is asked and promised.
pub mod Clauses
