-- An earlier round of `why` again. Read in this order.
pub mod Redone  -- what is written, and what holds between two rounds
pub mod Clauses  -- what the functions ask and promise
pub use Rattle.aut_why_rounds.specs.Clauses as Rounds
