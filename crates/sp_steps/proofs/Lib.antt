-- The laws of packet sets. Read in this order.
pub mod Word  -- of a handle's low bit
pub mod Op  -- of the two operations on bits
pub mod Laws  -- of tables in order: later tables keep meanings, equal sets have one handle
pub mod Make  -- a node found or made
pub mod Apply  -- one law for the operations that go down two sets
pub mod Sets  -- each operation means what its name says
pub mod Start  -- the constants of N fields
pub mod Size  -- size is the number of packets
pub mod Refused  -- 20 is met only where a node is lacking
pub mod Reuse  -- a kept result stays right
pub mod Corners  -- 01's rows, computed
