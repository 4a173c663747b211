use Rattle.aut_states.specs.declared.Members.{Members}
use Rattle.aut_sets.specs.Lent.{OnlySearch}
use Rattle.aut_query_calls.specs.Working.{with_members}
use Rattle.aut_live_pull.specs.Clauses.{Target}
use Rattle.aut_live_pull.proofs.SettlingLoops.{AllPulled}
use Rattle.aut_live_pull.proofs.pull_all.Given as goal

abbrev pub invariant-loop-i : goal.invariant-loop-i
invariant-loop-i l = record {
  keeps : OnlySearch l.initial.aut l.aut;
  all : (mem : Members) → Target l.config (with_members mem l.initial.aut) l.n l.initial.m l.t → AllPulled l.config (with_members mem l.initial.aut) l.n l.t l.initial.m (with_members mem l.aut) l.m l.i;
}
