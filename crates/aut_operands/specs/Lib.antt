-- The operands of a state: what their readers ask and promise.
pub mod Clauses
