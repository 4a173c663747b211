-- The laws of states. Read in this order.
pub mod Corners  -- 01's rows and other runs, computed
pub mod ListLaws  -- sorted lists have the same members, ascending
pub mod Facts  -- lists among the members, the search, the words of a new state
pub mod Scratch  -- lists in a slice of words
pub mod Wf  -- what a state is in later tables
pub mod MadeLaws  -- what a constructor has seen to, kind by kind
pub mod StepSpec  -- what a step comes to, with the reason if it is refused; steps one after another
pub mod InternLaws  -- interning leaves the state asked for
pub mod Languages  -- the laws by which constructors simplify
pub mod Decide  -- whether a string is in a rule can be decided
pub mod Meaning  -- meanings stay in later tables
pub mod RelationLaws  -- what each operation on relations makes
pub mod StateLaws  -- the constructors without lists: which strings their states hold
pub mod UnionLaws  -- .. of a union
pub mod Products  -- the products of a list with unions
pub mod IntersectLaws  -- .. of an intersection
pub mod SequenceLaws  -- .. of a sequence
pub mod SequenceDepth  -- mk_sequence is at most two deep
pub mod Instance  -- begun tables are in order
