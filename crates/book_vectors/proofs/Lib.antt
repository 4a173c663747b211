-- Books with their whole outcomes.
pub mod Vectors  -- 64 books, computed
pub mod ChangeVectors  -- nine with `why`, three with `next`
