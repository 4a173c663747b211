use Rattle.aut_intersect.proofs.Turns.{Turn}
use Rattle.aut_intersect.proofs.bases.Given as goal

abbrev pub invariant-loop-i : goal.invariant-loop-i
invariant-loop-i l = Turn l.config l.initial.aut l.k l.n l.aut l.i
