-- Read in this order.
pub mod Loops  -- the loops over the states
pub mod Walks  -- how `Walk` and `HasSets` go on
pub mod Lent  -- what calls leave of all tables
pub mod Found  -- a state's stored list
