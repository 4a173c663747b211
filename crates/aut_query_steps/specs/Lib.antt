-- aut.rs's queries: the search, live_packets and delta_pruned as steps, and what is stated of them. Read in this order.
pub mod Tables  -- all tables of a query, and when they are in order
pub mod Search  -- the search
pub mod Corners  -- 01's row on the search
pub mod Live  -- live_packets
pub mod Pruned  -- delta_pruned
pub mod Pending  -- pending entries in order
pub mod Explored  -- a state that the walk of live_packets has visited
