-- 01's corner rows marked [C].
pub mod Corners  -- one table of them
