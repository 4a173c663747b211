-- The search in code. Read in this order.
pub mod Clauses  -- what the search asks and promises
pub mod Parts  -- .. before words and entries are cleared
