-- 02 (vi), "answered alike": larger limits take no answer away.
pub mod Limits  -- what is stated of the lines of a book, of a line and of a run
