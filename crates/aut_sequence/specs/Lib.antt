-- Constructors that read and write no members: what is asked, what the answers say in the words of the steps, and the chain of a Sequence.
pub mod Clauses
