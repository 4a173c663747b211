-- The entry for C: its answer as a struct.
pub mod Outcome
