-- What the program writes.
pub mod Output
