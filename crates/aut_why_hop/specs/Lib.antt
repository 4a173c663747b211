-- One hop of the string that `why` prints, in code: what is asked and what is promised.
pub mod Clauses
