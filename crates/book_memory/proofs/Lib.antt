-- The table of lines.
pub mod Table
