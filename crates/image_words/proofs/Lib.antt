-- Block 0 and the words of an image, a step at a time.
pub mod Words
