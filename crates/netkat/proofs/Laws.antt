-- The proofs of what specs/ promises, and the laws that the layers above cite. Read in this order.
pub mod Hops  -- the laws of one hop, for every operator
pub mod Lists  -- the laws of transition lists
pub mod Ascending  -- and that their targets ascend
pub mod Tally  -- numbers of elements, and sums over states
pub mod Runs  -- how a turn goes, and how a run ends
pub mod Seen  -- what an expansion does to the packets seen
pub mod Bound  -- 1 + S × P × T
pub mod Walks  -- what is pending after a list is walked
pub mod Answers  -- verdicts against strings
pub mod Budget  -- what the budget does
pub mod Promise  -- the promise, put together
pub mod Live  -- live sets and the pruned list
pub mod Derivatives  -- epsilon and delta of every rule are true of its strings
