-- Read in this order.
pub mod Stays  -- a set that stays in a round
pub mod Carry  -- the rounds stand after what is written
pub mod States  -- one state
pub mod Runs  -- loops over the states
pub mod Steps  -- from round to round, and to a round that is kept
pub use Rattle.aut_why_rounds.proofs.Turns
