use Prim.Native.Nat.{◌-◌, ◌/◌}
use lib.ListN.{length}
use Rattle.aut_query_steps.specs.Search.{capacity}
use Rattle.aut_live_reach.proofs.Visiting.{Walking}
use Rattle.aut_live_reach.proofs.explore.Given as goal

abbrev pub invariant-loop-head : goal.invariant-loop-head
invariant-loop-head l = Walking l.config l.initial.aut l.aut l.n l.head

abbrev pub decreases-loop-head : goal.decreases-loop-head
decreases-loop-head l = capacity (length l.initial.aut.pending.now / 2) - l.head
