-- What a call leaves of all tables that are lent: one that makes packet sets; one that writes only words of states and entries.
use mathlib.Core.Path.{◌≡◌, refl}
use Rattle.aut_relations.specs.declared.Aut.{Aut as Lent}
use Rattle.aut_sets.specs.Lent.{OnlySets}
use Rattle.aut_live_words.specs.OnTables.{store_in}
pub use Rattle.aut_live_words.proofs.Held.{tables_marked as marks_tables}

pub sets_base : {x y : Lent} → OnlySets x y → store_in y ≡ store_in x
sets_base {x} {y} K = rw K.spp (rw K.states (rw K.members (rw K.transitions refl)))
