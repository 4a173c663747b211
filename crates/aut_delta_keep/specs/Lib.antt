-- A finished list stored: what is asked and what is promised.
pub mod Clauses
