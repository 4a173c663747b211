-- The states of aut.rs: the constructors as steps, when tables are in order, and which strings a state holds. Read in this order.
pub mod Relations  -- the operations on relations, for N fields
pub mod Tables  -- the tables, the words of a state, limits
pub mod Intern  -- a state found or made
pub mod Lists  -- sort and dedup
pub mod Constructors  -- the constructors, in the Rust's order of steps
pub mod Corners  -- 01's rows on constructors
pub mod Ascending  -- what holds of all members of a list; ascending lists
pub mod Scratch  -- which words of a slice a step may write
pub mod Kinds  -- the kinds: their operands, and the rule that a state stands for
pub mod Made  -- what a constructor has seen to before it interns
pub mod Wf  -- tables in order, later tables
pub mod StepSpec  -- what a step that is not refused leaves
pub mod Languages  -- when two sets of strings are the same
pub mod Meaning  -- the rule of a state, and the strings that it holds
