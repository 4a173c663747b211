-- Read in this order.
pub mod Turns  -- the set of a state
pub mod Passes  -- a round: the sets of all states, in turn
