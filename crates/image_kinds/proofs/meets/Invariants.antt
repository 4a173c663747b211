use mathlib.Core.Path.{◌≡◌}
use mathlib.Core.Bool.{false}
use Prim.Native.Nat.{ℕ}
use lib.Dec.{ltb}
use lib.ListN.{drop}
use Rattle.aut_steps.specs.Relations as Rel
use Rattle.image_steps.specs.Records as Records
use Rattle.image_kinds.proofs.meets.Given as goal

abbrev pub invariant-loop-j : goal.invariant-loop-j
invariant-loop-j l =
    (N : ℕ) → Rel.zero_at N ≡ l.zero.0 → Records.meets N l.states.words.now false 0 l.list ≡ Records.meets N l.states.words.now (ltb 0 l.j) l.lo (drop l.j l.list)
