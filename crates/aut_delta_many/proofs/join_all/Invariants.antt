use Rattle.aut_delta_many.proofs.Joins.{Joined}
use Rattle.aut_delta_many.proofs.join_all.Given as goal

abbrev pub invariant-loop-i : goal.invariant-loop-i
invariant-loop-i l = Joined l.config l.join l.initial.aut l.n l.from l.k l.aut l.m l.i
