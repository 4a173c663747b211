-- The verdict of the search for a string.
pub mod Verdict
