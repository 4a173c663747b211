-- All tables of the automaton, with what is worked out, as a layer of the rule for a run of calls.
pub mod OnTables
pub use Rattle.aut_epsilon.specs.Asked
