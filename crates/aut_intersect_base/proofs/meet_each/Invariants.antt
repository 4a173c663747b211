use Rattle.aut_union.proofs.Gather.{Turned}
use Rattle.aut_intersect_base.proofs.Gather.{meeting}
use Rattle.aut_intersect_base.proofs.meet_each.Given as goal

abbrev pub invariant-loop-i : goal.invariant-loop-i
invariant-loop-i l = Turned (meeting l.config.fields) l.initial.aut l.from l.k l.to l.aut l.p l.i
