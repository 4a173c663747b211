-- What the proofs of these functions, and of the calls above, use.
pub mod Next  -- a state of kind 10 is looked for
pub mod Keeping  -- the image of a run's last place, or 33 or 27
