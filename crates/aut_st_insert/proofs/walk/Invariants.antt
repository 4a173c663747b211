use Rattle.aut_st_insert.proofs.Walking.{Walking}
use Rattle.aut_st_insert.proofs.walk.Given as goal

abbrev pub invariant-loop-i : goal.invariant-loop-i
invariant-loop-i l = Walking l.config l.t.target l.t.label.0 l.m l.initial.aut l.aut l.met l.i
