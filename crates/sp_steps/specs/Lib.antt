-- Packet sets: the steps of sp.rs on a lent table, in the Rust's order, and what is stated of them. Read in this order.
pub mod Word  -- a handle's low bit
pub mod Op  -- union and xor, on two bits of membership
pub mod Model  -- the steps
pub mod Wf  -- tables in order, later tables, handles and what they mean
pub mod Make  -- when a node is missing, and when 20 is met
pub mod Size  -- the number of packets
pub mod Reuse  -- when a kept result may be reused
