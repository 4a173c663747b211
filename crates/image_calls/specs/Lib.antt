-- The calls of images in code: what is asked and promised. Read in this order.
pub mod Entries  -- what save, resume and resume_save promise
pub mod Clauses  -- what going on from an image promises, and the calls over what is lent
