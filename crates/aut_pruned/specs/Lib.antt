-- Pruned lists in code. Read in this order.
pub mod Onto  -- the step, with the list of those kept so far
pub mod Clauses  -- what delta_pruned asks and promises
