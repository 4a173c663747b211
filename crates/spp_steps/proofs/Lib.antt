-- The laws of relations. Read in this order.
pub mod Exact  -- what a run comes to, with its refusals
pub mod Relations  -- of relations by their tests
pub mod Laws  -- of tables in order: later tables keep meanings, equal relations have one handle
pub mod Make  -- a node found or made
pub mod Begin  -- the constants of N fields
pub mod Apply  -- one law for the boolean operations
pub mod Sequence  -- sequence is composition
pub mod Closure  -- the star by blocks is the closure
pub mod Star  -- star makes it
pub mod Field  -- test and set of one bit
pub mod Size  -- size is the number of pairs
pub mod Images  -- fwd, bwd, ifwd, push, pull
pub mod HasImage  -- has_image
pub mod Results  -- what each operation comes to, one by one
pub mod Reuse  -- a kept result stays right
pub mod Corners  -- 01's rows, computed
