-- Lists joined one after the other, and the first list of an Intersect.
pub mod Lists
pub mod Joins
