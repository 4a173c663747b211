-- The relations of a list intersected, and the state of the list; a list that is opened; the chain of calls of an intersection.
pub mod Gather
pub mod Opening
pub mod Chain
