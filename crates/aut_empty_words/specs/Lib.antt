-- A search in words: pending entries and seen sets.
pub mod Words
