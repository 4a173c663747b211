-- Calls that a query makes, as calls of its layer. Read in this order.
pub mod Ran  -- what a call came to
pub mod Works  -- the tables from a query's beginning to its end
pub mod Calls  -- what each callee asks, and what it came to
pub mod Listed  -- a transition of a list
