-- The rounds of `why` in words. Read in this order.
pub mod Walk  -- the states reached, and sets in a word of each
pub mod Words  -- what the functions on single words ask and promise
