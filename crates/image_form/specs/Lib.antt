-- 02 (ii), "Keep a checked book's tables": the form of an image. Read in this order.
pub mod Form  -- blocks, words and bytes, and the check
pub mod Damage  -- which damage is found
