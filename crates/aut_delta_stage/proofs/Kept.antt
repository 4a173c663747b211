-- What is kept where no transition is written is kept where one may be.
use mathlib.Core.Path.{refl}
use Rattle.aut_relations.specs.declared.Aut.{Aut as Lent}
use Rattle.aut_relations.specs.Lent.{Keeps}
use Rattle.aut_relations.proofs.Kept.{keeps_more}
use Rattle.aut_delta_stage.specs.OnTables.{KeepsStore}

pub store_keeps : {x y : Lent} → Keeps x y → KeepsStore x y
store_keeps K = keeps_more (record { sp = refl; spp = refl; states = refl; count = refl; members = refl; transitions = refl; pending = refl; scratch = refl }) K
