-- The laws of the picked string. Read in this order.
pub mod OrderLaws  -- packets as numbers, the least packet of a set, at most one picked string
pub mod WithinLaws  -- the starts of strings with at most k hops, one hop at a time
pub mod PickLaws  -- the pick from these sets is the picked string
pub mod Examples  -- computed picks
