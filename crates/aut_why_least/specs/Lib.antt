-- Least packets for `why`, with the cache behind the lists in scratch: what the functions ask and promise.
pub mod Clauses
