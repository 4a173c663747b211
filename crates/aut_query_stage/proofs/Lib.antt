-- The laws of the layer of specs/.
pub mod Lent  -- of the layer over all tables that are lent
pub use Rattle.aut_delta_stage.proofs.OnTables
