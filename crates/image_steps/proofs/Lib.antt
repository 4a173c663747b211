-- The laws of images. Read in this order.
pub mod Lists  -- words in a row, and a table that is filled from its front
pub mod Sorted  -- ascending lists are decided by their members
pub mod Depths  -- the depth of a handle as the reader finds it
pub mod Fits  -- what a state's record was tested for
pub mod Constructors  -- the constructor of a record that fits is the interning
pub mod States  -- a state's record made again
pub mod Before  -- a state of tables in order fits those before it
pub mod Nodes  -- packet and relation nodes, made again
pub mod Loops  -- how to follow the reading of an image
pub mod Copies  -- what the tables hold of the image
pub mod Reading  -- what is read is in order; the numbers
pub mod Same  -- what is read is saved to the same bytes
pub mod Calls  -- what save, resume and resume_save come to
pub mod Damage  -- one altered byte, or two exchanged, is refused
pub mod OwnNodes  -- packet nodes of an own image
pub mod OwnRelations  -- and relation nodes
pub mod OwnStates  -- and states with their members
pub mod OwnBody  -- where each table's words stand
pub mod OwnImage  -- head, words and blocks of an own image
pub mod Own  -- an own image is read back
pub mod Claims  -- what specs/Claims states
