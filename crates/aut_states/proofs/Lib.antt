-- What each turn of the searches and each way through the constructors comes to.
pub mod Slices
pub mod Scan
pub mod Intern
