-- What is kept of a state; what the values come to when they are put together; the loop over states below.
pub mod Shapes
pub mod Together
pub mod Turns
