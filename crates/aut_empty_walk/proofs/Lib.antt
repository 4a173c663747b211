pub mod Walks
pub mod Spreads
