-- The products one by one; the chain of calls of an intersection.
pub mod Turns
pub mod Chain
