-- Images in code. Read in this order.
pub mod Ways  -- fwd and bwd, push and pull: one operation in two directions
pub mod Reuse  -- when a cached result is right
pub mod Clauses  -- what an answer says, what the functions ask and ensure
