-- st_xor: what is asked.
pub mod Asked
