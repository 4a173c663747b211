use Prim.Native.Nat.{◌*◌, ◌≤◌}
use lib.ListN.{length}
use Rattle.aut_states.specs.declared.Members.{Members}
use Rattle.aut_sets.specs.Lent.{OnlySearch}
use Rattle.aut_query_calls.specs.Working.{with_members}
use Rattle.aut_live_words.specs.Work.{seconds}
use Rattle.aut_live_pull.specs.Clauses.{SettleReady}
use Rattle.aut_live_pull.proofs.SettlingLoops.{Between, left_of}
use Rattle.aut_live_pull.proofs.settle.Given as goal

abbrev pub invariant-loop-m : goal.invariant-loop-m
invariant-loop-m l = record {
  keeps : OnlySearch l.initial.aut l.aut;
  high : 2 * l.m ≤ length l.aut.pending.now;
  between : (mem : Members) → SettleReady l.config (with_members mem l.initial.aut) l.n → Between l.config (with_members mem l.initial.aut) l.n (with_members mem l.aut) l.m;
}

abbrev pub decreases-loop-m : goal.decreases-loop-m
decreases-loop-m l = left_of l.config.fields l.aut.sp.nodes.now l.aut.states.words.now (seconds l.initial.aut.pending.now 0 l.n) l.m
