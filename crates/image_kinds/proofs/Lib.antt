-- What the tests of a state's record need beside the definitions of the steps, and what a record that fits says.
pub mod Lists  -- a list whose members are in the table
pub mod Whole  -- the whole test, by kinds
