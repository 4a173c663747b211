use Prim.Native.Nat.{◌-◌}
use Rattle.aut_empty.proofs.Runs.{Sought}
use Rattle.aut_empty.proofs.search.Given as goal

abbrev pub invariant-loop-n : goal.invariant-loop-n
invariant-loop-n l = Sought l.config l.initial.aut l.budget l.first l.aut l.n l.count

abbrev pub decreases-loop-n : goal.decreases-loop-n
decreases-loop-n l = l.budget - l.count
