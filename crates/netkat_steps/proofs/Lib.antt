-- The laws of these steps, and instances: that what specs/ asks can be had. Read in this order.
pub mod ListSteps  -- the laws of the operations on lists
pub mod Related  -- the operations on lists, in two runs
pub mod Refined  -- the search over handles against the plain one
pub mod Demand  -- demand 3, for one search
pub mod Direct  -- .. and that the plain search itself meets it
pub mod ExampleStore  -- a store for the list operations
pub mod ExampleStoreLaws  -- and that it is lawful
pub mod Examples  -- 01's example and some small ones, computed
pub mod Book  -- 01's book
