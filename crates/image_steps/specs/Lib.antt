-- 02 (ii), "Keep a checked book's tables": what is written, how it is read again, and the calls. Read in this order.
pub mod Image  -- the words of a place, and its image
pub mod Records  -- a record of an image, made again by its constructor
pub mod Read  -- an image is read, block by block
pub mod Calls  -- the outcomes of save, resume and resume_save
pub mod Claims  -- what is claimed of them
