-- A query while it runs: what holds of the tables and of scratch, and what a call comes to.
pub mod Working
pub use Rattle.aut_query_stage.specs.Layer
pub use Rattle.aut_query_stage.specs.Lent
pub use Rattle.aut_query_stage.specs.OnTables
