-- The cache given back; room for a handle + 1.
pub mod Back
pub mod Small
