-- Steps done again. Read in this order.
pub mod Replay  -- done again on later tables in order, a step gives the same and makes nothing
pub mod Limits  -- larger limits only refuse less
