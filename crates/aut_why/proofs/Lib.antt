-- Read in this order.
pub mod Loop  -- round after round
pub mod Whys  -- with the live sets before
