-- That the steps have alike runs on tables that differ in words 7 to 11 only; constructors and operations on lists also on tables that differ in words 4 to 11. Read in this order.
pub mod Alike  -- alike tables, alike runs
pub mod Clear  -- what a change of words 7 to 11 is
pub mod Runs  -- how to follow a step on two stores
pub mod Twin  -- tables that are the same in words 0 to 3, of which alike tables are some
pub mod Words  -- what is read and written of them
pub mod Interning  -- interning, on twins
pub mod Constructors  -- the constructors, and a book's line
pub mod Lists  -- the operations on transition lists, and what delta puts together
pub mod Deltas  -- epsilon and delta, on alike tables
pub mod Clearing  -- `clear` by its words
pub mod Free  -- what the queries' code cites
