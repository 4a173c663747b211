-- Relations in code. Read in this order.
pub mod Reuse  -- when a cached result is right
pub mod Clauses  -- what an answer says, what the operations ask and ensure
