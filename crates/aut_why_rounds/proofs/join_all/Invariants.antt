use mathlib.Core.List.{List}
use Prim.Native.Nat.{ℕ}
use Rattle.sp_steps.specs.Wf as SpLaws
use Rattle.aut_why_steps.specs.Why.{Sets}
use Rattle.aut_states.specs.declared.Members.{Members}
use Rattle.aut_sets.specs.Lent.{sets_in, OnlySets}
use Rattle.aut_query_calls.specs.Working.{with_members}
use Rattle.aut_why_rounds.specs.Clauses.{TurningIn}
use Rattle.aut_why_rounds.proofs.Turns.{Joined}
use Rattle.aut_why_rounds.proofs.join_all.Given as goal

abbrev pub invariant-loop-i : goal.invariant-loop-i
invariant-loop-i l = record {
  keeps : OnlySets l.initial.aut l.aut;
  joined : (mem : Members) (p : List ℕ) (n : ℕ) (before : Sets) (T : TurningIn l.config (with_members mem l.initial.aut) p n before l.s) (U : SpLaws.ValidAt (sets_in l.initial.aut) l.config.fields l.initial.u.0)
      → Joined l.config (with_members mem l.initial.aut) T l.initial.u.0 U l.list (with_members mem l.aut) l.u.0 l.i;
}
