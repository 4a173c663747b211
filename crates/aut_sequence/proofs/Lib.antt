-- What calls on all tables come to; the two ways of mk_sequence, the chain of a Sequence, and its regrouping.
pub mod Tables
pub mod Ways
pub mod Chain
pub mod Regroup
