-- what the proofs of several functions use
pub mod Opening  -- block 0
pub mod Constants  -- the constants
pub mod Ending  -- the last block
pub mod Lines  -- members and lines, one after the other
pub mod Nodes  -- both kinds of nodes
pub mod States  -- members and states, lines, the end
pub mod Whole  -- an image
