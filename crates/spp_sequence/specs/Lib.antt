-- Sequence and star in code. Read in this order.
pub mod Parts  -- the steps in parts, as the code makes them
pub mod Clauses  -- what an answer says, what is asked
