-- What the functions that write an image rest on. Read in this order.
pub mod Body  -- which word of the tables each word of an image is
pub mod Bytes  -- blocks as bytes, written one behind the other
pub mod Whole  -- all blocks are the image of the place; a place in order can be written
