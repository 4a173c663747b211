use Rattle.aut_relations.specs.Lent.{KeepsExprs}
use Rattle.aut_st_complement.proofs.Cover.{Covered}
use Rattle.aut_st_complement.proofs.cover_all.Given as goal

abbrev pub invariant-loop-i : goal.invariant-loop-i
invariant-loop-i l = Covered l.config l.source l.initial.aut l.aut l.sum.0 l.i × KeepsExprs l.initial.aut l.aut
