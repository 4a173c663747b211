-- That the steps replay. Read in this order.
pub mod Runs  -- how to follow two runs
pub mod Interning  -- interning again finds the state
pub mod Opening  -- lists opened again are the same
pub mod Constructors  -- the constructors replay
pub mod Lists  -- the operations on transition lists replay
pub mod Values  -- what epsilon puts together
pub mod Epsilon  -- epsilon
pub mod Together  -- what delta puts together
pub mod Delta  -- delta
pub mod Replay  -- the laws of specs/Replay
pub mod Limits  -- the law of specs/Limits
