-- The relations of a list gathered, for unions and intersections; what their calls have in common; the chain of calls of a union.
pub mod Gather
pub mod Calls
pub mod Chain
