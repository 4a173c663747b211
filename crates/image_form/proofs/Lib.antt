-- The laws of an image's form. Read in this order.
pub mod Bytes  -- numbers as bytes, and back
pub mod Blocks  -- what is written is read back, and what is taken was written so
pub mod Check  -- damage is found
pub mod Examples  -- computed blocks
