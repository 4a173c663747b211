-- The tests of a state's record in code: what they ask and promise.
pub mod Clauses
