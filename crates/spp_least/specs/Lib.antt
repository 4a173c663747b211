-- The least packet of a set, and of those of a set to which a relation leads a packet, in code: the word that stands for it, what the cache holds, and what the functions ask and ensure.
pub mod Clauses
