-- What each turn of the loops over lists comes to.
pub mod Opening
pub mod Sorting
pub mod Multiplying
