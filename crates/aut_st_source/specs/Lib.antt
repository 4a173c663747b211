-- Transition lists that are walked.
pub mod Clauses
pub mod Stored  -- where a state's list is
pub use Rattle.aut_st_insert.specs.Asked
pub use Rattle.aut_st_insert.specs.Clauses as Insert
