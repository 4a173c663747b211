use mathlib.Core.Path.{◌≡◌}
use mathlib.Core.Bool.{false}
use Prim.Native.Nat.{ℕ}
use lib.ListN.{drop}
use Rattle.aut_steps.specs.Relations as Rel
use Rattle.image_steps.specs.Records as Records
use Rattle.image_kinds.proofs.unites.Given as goal

abbrev pub invariant-loop-x : goal.invariant-loop-x
invariant-loop-x l =
    (N : ℕ) → Rel.zero_at N ≡ l.zero.0 → Records.unites N l.states.words.now false 0 l.list ≡ Records.unites N l.states.words.now l.seen l.lo (drop l.x-index l.list)
