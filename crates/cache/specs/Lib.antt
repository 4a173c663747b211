-- The cache of results in scratch.
pub mod Cache  -- slots, what they must satisfy, what a look and a note do
