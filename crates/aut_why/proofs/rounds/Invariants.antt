use mathlib.Core.Path.{◌≡◌}
use Prim.Native.Nat.{◌+◌, ◌*◌, ◌-◌, ◌^◌}
use Rattle.aut_why_steps.specs.Why.{Sets}
use Rattle.aut_sets.specs.Lent.{OnlySearch}
use Rattle.aut_why.specs.Loop.{GoingIn}
use Rattle.aut_why.proofs.Loop.{Between}
use Rattle.aut_why.proofs.rounds.Given as goal

abbrev pub invariant-loop-f : goal.invariant-loop-f
invariant-loop-f l = record {
  keeps : OnlySearch l.initial.aut l.aut;
  pending : l.aut.pending ≡ l.initial.aut.pending;
  between : (first : Sets) (Q : GoingIn l.config l.initial.aut l.n first l.x) → Between l.config l.initial.aut Q l.aut l.f l.k;
}

abbrev pub decreases-loop-f : goal.decreases-loop-f
decreases-loop-f l = l.n * 2 ^ l.config.fields + 1 - l.k
