-- A constructor line of a book.
pub mod Lines  -- what it means, a rule, and the step that makes its state
