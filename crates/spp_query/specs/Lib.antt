-- The relation of a set, has_image and size in code: what an answer says in the words of the steps, and what the functions ask and ensure.
pub mod Clauses
