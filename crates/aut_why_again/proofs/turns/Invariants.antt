use mathlib.Core.Path.{◌≡◌}
use mathlib.Core.List.{List}
use Prim.Native.Nat.{ℕ, ◌+◌}
use Rattle.aut_states.specs.declared.Members.{Members}
use Rattle.aut_sets.specs.Lent.{OnlySearch}
use Rattle.aut_query_stage.specs.Lent.{tables_in}
use Rattle.aut_query_calls.specs.Working.{with_members}
use Rattle.aut_why_steps.specs.Why.{Sets, round_at}
use Rattle.aut_why_again.specs.Clauses.{OnwardIn}
use Rattle.aut_why_again.proofs.Runs.{Running}
use Rattle.aut_why_again.proofs.turns.Given as goal

abbrev pub invariant-loop-i : goal.invariant-loop-i
invariant-loop-i l = record {
  keeps : OnlySearch l.initial.aut l.aut;
  pending : l.aut.pending ≡ l.initial.aut.pending;
  runs : (mem : Members) (ws : List Sets) (k : ℕ) → OnwardIn l.config (with_members mem l.initial.aut) l.n ws k
      → Running l.config.fields (round_at l.config.fields ws (k + 1)) l.n l.initial.aut.pending.now (tables_in (with_members mem l.initial.aut)) (tables_in (with_members mem l.aut)) l.initial.aut.scratch.now l.aut.scratch.now l.i;
}
