-- What the functions on blocks rest on.
pub mod Sum  -- the check's sum byte by byte, bytes stored, what is said of a block
