use Rattle.aut_empty_walk.proofs.Walks.{Along}
use Rattle.aut_empty_walk.proofs.walk.Given as goal

abbrev pub invariant-loop-j : goal.invariant-loop-j
invariant-loop-j l = Along l.config l.initial.aut l.n l.fresh.state l.fresh.packets.0 l.aut l.m l.j
