-- The entries for C of images: their answers as structs.
pub mod Outcome
