-- The operations of aut.rs on transition lists (ST), on its tables. The steps are netkat_steps' ListSteps. Read in this order.
pub mod Operations  -- what they call on labels and states
pub mod Edges  -- a list as words, and when it is in order
pub mod ListSpec  -- what an operation leaves
pub mod EachSteps  -- what is made of a transition before it is inserted
pub mod Places  -- places in a list, by number
pub mod InsertSteps  -- st_insert in the parts in which the code makes it
