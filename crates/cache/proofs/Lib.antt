-- The laws of the cache. Read in this order.
pub mod Written  -- four words written to a slot
pub mod Cache  -- a sound cache stays sound
pub mod Stage  -- a run of calls on a store and a cache
