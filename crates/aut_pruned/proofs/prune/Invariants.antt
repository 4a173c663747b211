use Rattle.aut_pruned.proofs.Turns.{Cutting}
use Rattle.aut_pruned.proofs.prune.Given as goal

abbrev pub invariant-loop-i : goal.invariant-loop-i
invariant-loop-i l = Cutting l.config l.initial.aut l.x l.list l.aut l.m l.i
