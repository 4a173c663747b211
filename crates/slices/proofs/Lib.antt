-- What several calls keep of a slice together, and searches in a slice.
pub mod Same
pub mod Records
pub mod Copied
