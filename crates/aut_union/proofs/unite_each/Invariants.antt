use Rattle.aut_union.proofs.Gather.{Turned, uniting}
use Rattle.aut_union.proofs.unite_each.Given as goal

abbrev pub invariant-loop-i : goal.invariant-loop-i
invariant-loop-i l = Turned (uniting l.config.fields) l.initial.aut l.from l.k l.to l.aut l.p l.i
