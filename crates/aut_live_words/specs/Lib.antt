-- Live sets in words, while they are worked out. Read in this order.
pub mod Work  -- word 9, and the two lists in the pending table
pub mod Clauses  -- what the functions on single words ask and promise
pub use Rattle.aut_query_calls.specs.Working
pub use Rattle.aut_query_calls.specs.Layer
pub use Rattle.aut_query_calls.specs.OnTables
pub use Rattle.aut_st_source.specs.Stored
