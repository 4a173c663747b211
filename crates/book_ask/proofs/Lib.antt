pub mod Join
pub mod Why
