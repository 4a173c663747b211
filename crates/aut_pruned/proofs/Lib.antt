-- The laws of aut_pruned. Read in this order.
pub mod Onto
pub mod Labels  -- one label
pub mod Turns  -- the loop over a list
pub mod Join  -- delta_pruned
