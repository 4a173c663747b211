-- An operation on relations; loops that gather relations; what tables in order give; what opened lists are; what several calls keep.
pub mod Behind
pub mod Join
pub mod Order
pub mod Each
pub mod Opens
pub mod Kept
