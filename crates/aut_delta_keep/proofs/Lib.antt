-- A finished list stored: its words, and the room for them.
pub mod Keeping
