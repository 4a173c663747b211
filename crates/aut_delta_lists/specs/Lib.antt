-- The lists of delta, by kind: what is asked.
pub mod Asked
