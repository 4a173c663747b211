-- The text of a book in code: what is asked of its cursors, and what the reader's answers say in the words of the specs.
pub mod Bytes
pub mod Clauses
