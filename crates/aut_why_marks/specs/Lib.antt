-- Words 8 to 11 of the states that `why` works on, by columns. Read in this order.
pub mod Columns  -- a column is written
pub mod Clauses  -- what the functions on columns ask and promise
