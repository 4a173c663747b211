use mathlib.Core.Path.{◌≡◌}
use Rattle.aut_why_steps.specs.Why.{Sets}
use Rattle.aut_states.specs.declared.Members.{Members}
use Rattle.aut_sets.specs.Lent.{OnlySearch}
use Rattle.aut_query_calls.specs.Working.{with_members}
use Rattle.aut_why_rounds.specs.Clauses.{RoundingIn}
use Rattle.aut_why_rounds.proofs.Passes.{Passed}
use Rattle.aut_why_rounds.proofs.round.Given as goal

abbrev pub invariant-loop-i : goal.invariant-loop-i
invariant-loop-i l = record {
  keeps : OnlySearch l.initial.aut l.aut;
  pending : l.aut.pending ≡ l.initial.aut.pending;
  passed : (mem : Members) (before : Sets) (R : RoundingIn l.config l.first (with_members mem l.initial.aut) l.n before) → Passed l.config (with_members mem l.initial.aut) R (with_members mem l.aut) l.i;
}
