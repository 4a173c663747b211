pub mod Hops
pub mod Ready
