-- All tables that a query works on, packet nodes too, as a layer of the rule for a run of calls. Read in this order.
pub mod Layer  -- tables and scratch in order for a query
pub mod Lent  -- the layer, over all tables that are lent
pub use Rattle.aut_delta_stage.specs.OnTables
pub use Rattle.aut_delta_stage.specs.Asked
