-- Nodes read from an image. Read in this order.
pub mod Depth  -- the depth of a handle
pub mod Node  -- what comes of a record
pub mod Rows  -- a record with its block, and one after the other
