-- The proofs of what specs/ promises.
pub mod Laws  -- in the order of the specs: hops, lists, the search, live sets, derivatives
