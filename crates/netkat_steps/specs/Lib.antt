-- The operations on transition lists and the search as steps over any store. Read in this order.
pub mod ListSteps  -- the same operations as steps over a store
pub mod Handles  -- the search over handles, as a program does it
pub mod Direct  -- the plain search as such a search
pub mod Demand  -- demand 3, for one search
