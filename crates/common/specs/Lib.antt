-- What meaning and steps share. Read in this order.
pub mod Packets  -- packets, and sets and relations of them by their tests
pub mod Relations  -- the operations on relations, the closure, what a relation leads back to
pub mod Outcome  -- what a step over a store comes to: a refusal, or a store and a value
pub mod Runs  -- a lent table; a run of steps that stays true in later stores
pub mod Rows  -- computed rows, and that all rows of a table hold
