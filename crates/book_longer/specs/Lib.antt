-- 02 (ii), "its lent lengths no smaller": more lent memory takes no answer away.
pub mod Longer  -- longer tables, runs that follow, and what is stated of steps, runs and books
