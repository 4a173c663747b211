-- The loops over a source, the runs of calls on lists, and the lists that wait in them.
pub mod Turns
pub mod Run
pub mod Waits
