-- what the proofs of several functions use
pub mod Bits
pub mod Frame
pub mod Refused
pub mod Scan
pub mod Begin
pub mod Turn
pub mod Count
pub mod Thin
