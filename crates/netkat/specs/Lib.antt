-- The meaning of a rule and of the emptiness search. Read in this order.
pub mod Strings  -- what a string is
pub mod Rules  -- which strings a rule holds
pub mod Hops  -- epsilon, and strings one hop at a time
pub mod Lists  -- transition lists: what they mean, and aut.rs's operations on them
pub mod Search  -- the plain search
pub mod Promise  -- what is promised of it
pub mod Live  -- live sets and the pruned list
pub mod Derivatives  -- epsilon and delta of every rule; the automaton of rules
