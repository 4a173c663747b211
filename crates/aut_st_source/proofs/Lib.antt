-- Lemmas for the proofs of this crate.
pub mod Sources
pub use Rattle.aut_st_insert.proofs.Join
