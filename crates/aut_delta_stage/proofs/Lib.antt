-- The laws of the layer of specs/; what several calls keep; a list copied from one slice to another.
pub mod OnTables
pub mod Kept
pub mod Copied
