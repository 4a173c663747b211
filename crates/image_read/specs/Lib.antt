-- An image read: what is asked and promised.
pub mod Clauses
