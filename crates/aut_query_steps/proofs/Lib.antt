-- The laws of the queries. Read in this order.
pub mod Tables  -- tables in order, live sets in later ones
pub mod Corners  -- 01's row, 01's book with its budgets and refusals, computed
pub mod LiveExamples  -- live and pruned of 01's book and of small ones, computed
pub mod Steps  -- how to follow a query's steps
pub mod SearchLaws  -- the search reports what the plain search does
pub mod SearchEnds  -- why it is refused
pub mod ExploreLaws  -- live_packets: the walk
pub mod SettleLaws  -- .. the work list
pub mod LiveLaws  -- .. the whole
pub mod PrunedLaws  -- delta_pruned
