-- what the proofs of the functions use
pub mod Count
pub mod Has
pub mod LiftTurn
