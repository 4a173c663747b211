-- Packet sets and images for the queries, with the cache behind the lists. Read in this order.
pub mod Lent  -- all tables that are lent, for the queries
pub mod Clauses  -- what the operations ask and promise
