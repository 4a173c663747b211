-- The laws of `why`. Read in this order.
pub mod Makes  -- bwd, pull and union make packet nodes only, and are refused with 20 only
pub mod Turns  -- the turn of a state, and a round
pub mod Progress  -- the rounds so far, and that they end
pub mod WhyLaws  -- `why`: the picked string, or none; why it is refused
pub mod Examples  -- small books, computed
