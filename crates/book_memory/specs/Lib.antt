-- What is lent for a book, and a place of a book that runs.
pub mod Place
