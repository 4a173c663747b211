-- The laws of specs/Limits. Read in this order.
pub mod Queries  -- a constructor line, and the queries
pub mod Run  -- a line, and a run
