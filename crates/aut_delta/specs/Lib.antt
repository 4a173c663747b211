-- delta in code. Read in this order.
pub mod Clauses  -- what delta asks and promises
pub mod Readings  -- what the answers of its parts say in the words of its step
