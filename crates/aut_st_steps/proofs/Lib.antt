-- The laws of the operations on transition lists. Read in this order.
pub mod Edges  -- lists as words
pub mod ListSpec  -- what each operation leaves, and why it is refused
pub mod EachSteps  -- what is made of a transition is in order
pub mod Places  -- lists by places, and a write to one record
pub mod InsertSteps  -- the parts of st_insert are st_insert
pub mod MinusSteps  -- st_difference's loop, a transition at a time
