-- 02 (i), "Say how it gets through": which string `why` picks. Read in this order.
pub mod Order  -- packets as numbers, the order on strings, the picked string
pub mod Pick  -- sets of starts by hops, and the pick from them
