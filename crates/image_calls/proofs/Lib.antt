-- What the proofs of several functions use.
pub mod Whole  -- going on from an image, and the calls
