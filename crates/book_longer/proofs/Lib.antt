-- The laws of specs/Longer. Read in this order.
pub mod Follow  -- how to follow a step on two stores
pub mod Words  -- what is read and written in longer tables
pub mod Sets  -- the steps on packet nodes
pub mod Relations  -- the steps on relation nodes
pub mod Images  -- the steps between packet sets and relations
pub mod Anchored  -- longer tables, and what the shorter ones keep
pub mod Interning  -- a state found or made
pub mod Constructors  -- the smart constructors, and a line of a book
pub mod Lists  -- the operations on transition lists
pub mod Operands  -- operands of states, and words written
pub mod Epsilon  -- epsilon
pub mod Delta  -- delta
pub mod Queries  -- the steps of queries
pub mod Search  -- is_empty
pub mod Live  -- live_packets
pub mod Pruned  -- delta_pruned
pub mod Why  -- why
pub mod Run  -- a line, and a run
pub mod Book  -- the whole book
