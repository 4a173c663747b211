-- The law of constructor lines.
pub mod LineLaws  -- the state that a line makes holds the strings of its rule
