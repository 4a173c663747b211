-- The lists of a Union and of an Intersect in code. Read in this order.
pub mod Clauses  -- the lists of the members
pub mod Joins  -- lists joined one after the other
pub mod Asked  -- what is asked
