-- The rounds of `why`: what is asked and what is promised. Read in this order.
pub mod Loop  -- round after round
pub mod Clauses  -- with the live sets before
