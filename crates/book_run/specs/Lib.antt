-- A book in code: its parts, and the public entry.
pub mod Clauses
