-- what the proofs of several functions use
pub mod Reuse
pub mod Frame
pub mod Halves
pub mod Turn
pub mod ProjectTurn
pub mod LeadTurn
