-- aut.rs's `epsilon` and `delta`: the two steps, and what is stated of them. Read in this order.
pub mod Epsilon  -- epsilon, in the Rust's order of steps
pub mod Delta  -- delta, in the Rust's order of steps
pub mod Examples  -- 01's rows on delta
pub mod Fits  -- what labels and states mean in the tables
pub mod Noted  -- what a run of epsilon leaves
pub mod Wf  -- what is kept in words 4 to 6 and in the transitions is true
pub mod EpsilonSpec  -- what epsilon comes to
pub mod EpsilonReads  -- epsilon that reads its operands' values from the tables
pub mod EpsilonDown  -- the way down to what is not worked out
pub mod Extends  -- what a run of delta leaves
pub mod DeltaReads  -- delta that reads its operands' lists from the tables
pub mod DeltaDown  -- the way down to what is not stored
pub mod PlainSearch  -- both as the automaton of the plain search
