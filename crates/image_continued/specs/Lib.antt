-- A book continued from an image. Read in this order.
pub mod Records  -- tables with the same records
pub mod Follow  -- two runs side by side
pub mod Mode  -- packet nodes in step, or 20 and 24
pub mod Continued  -- what is claimed
pub mod Answers  -- .. in words of the calls, with lent lengths no smaller
