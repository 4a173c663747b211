-- What `?` hands on.
pub mod Passed
