-- That 01's corner rows hold.
pub mod Corners  -- every row of the table
