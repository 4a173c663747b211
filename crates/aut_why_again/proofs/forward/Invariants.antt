use mathlib.Core.Path.{◌≡◌}
use mathlib.Core.List.{List}
use Rattle.aut_states.specs.declared.Members.{Members}
use Rattle.aut_sets.specs.Lent.{OnlySearch}
use Rattle.aut_query_calls.specs.Working.{with_members}
use Rattle.aut_why_steps.specs.Why.{Sets}
use Rattle.aut_why_again.specs.Clauses.{AheadIn, StartedIn}
use Rattle.aut_why_again.proofs.forward.Given as goal

abbrev pub invariant-loop : goal.invariant-loop
invariant-loop l = record {
  keeps : OnlySearch l.initial.aut l.aut;
  pending : l.aut.pending ≡ l.initial.aut.pending;
  started : (mem : Members) (ws : List Sets) → AheadIn l.config (with_members mem l.initial.aut) l.n ws l.from l.to → StartedIn l.config l.n ws l.counter (with_members mem l.initial.aut) (with_members mem l.aut);
}
