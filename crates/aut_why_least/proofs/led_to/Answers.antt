use native.Mathlib.Omega.{arith}
use mathlib.Core.List.{List}
use Prim.Native.Nat.{ℕ}
use Rattle.spp_steps.specs.ImageModel.{Stores}
use Rattle.spp_least.specs.Clauses.{LedAsked}
use Rattle.aut_relations.proofs.Behind.{lent}
use Rattle.aut_sets.proofs.Back.{lent_sound, notes_back}
use Rattle.aut_why_least.specs.Clauses.{PreLed}
use Rattle.aut_why_least.proofs.led_to.Goals as goal

asked : {N : ℕ} {σ : Stores} {s : List ℕ} {k a r : ℕ} → PreLed N σ s k a r → LedAsked N N σ (lent s) k a r
asked {s = s} q = record { few = q.end.few; deep = omega arith; wf = q.end.wf; at_s = q.at_a; at_r = q.end.at_r; small = q.end.small; sound = lent_sound s q.end.sound }

pub least_led-requires : goal.least_led-requires
least_led-requires c = rw (c.view-sets.ensures.nodes, c.view-sets.ensures.count, c.relations_of-relations.ensures.0, c.relations_of-relations.ensures.1, c.relations_of-relations.ensures.2) (asked c.requires)

pub returns-clause-gives : goal.returns-clause-gives
returns-clause-gives c =
    let A = rw (c.view-sets.ensures.nodes, c.view-sets.ensures.count, c.relations_of-relations.ensures.0, c.relations_of-relations.ensures.1) at c.least_led.ensures in
    record { is = A.is; left = notes_back c.args.aut.now.scratch.now c.least_led.new.cache c.requires.end.room A.notes }
