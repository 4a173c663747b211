-- All tables that are lent, and relations of states, in code. Read in this order.
pub mod Behind  -- scratch: lists below word 1152, the cache behind
pub mod Clauses  -- what is asked of the tables
pub mod Lent  -- all tables that are lent: how the steps see them, what a call keeps, and what its answer says
