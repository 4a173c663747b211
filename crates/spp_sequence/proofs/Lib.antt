pub mod Parts
pub mod Calls
pub mod Product
pub mod Moment
pub mod Closing
