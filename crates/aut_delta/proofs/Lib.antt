-- What is worked out before the operands' lists; the way down; the list stored; the loop over states below.
pub mod Entering
pub mod Ways
pub mod Storing
pub mod Turns
