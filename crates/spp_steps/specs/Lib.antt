-- Relations on packets: the steps of spp.rs on a lent table, in the Rust's order, and what is stated of them. Read in this order.
pub mod Model  -- the steps on relation nodes
pub mod ImageModel  -- the steps between packet sets and relations
pub mod Relations  -- relations by their tests, and by first bits
pub mod Wf  -- tables in order, later tables, handles and what they mean
pub mod Make  -- when a node is missing, and when 21 is met
pub mod Closure  -- the star by blocks
pub mod Size  -- the number of pairs
pub mod Images  -- tables of both kinds in order
pub mod Reuse  -- when a kept result may be reused
