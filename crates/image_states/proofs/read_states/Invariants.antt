use Rattle.image_states.specs.Clauses.{OnlyExprs}
use Rattle.image_states.proofs.Turning as its
use Rattle.image_states.proofs.read_states.Given as goal

abbrev pub invariant-loop-i : goal.invariant-loop-i
invariant-loop-i l = record {
  keeps : OnlyExprs l.initial.aut l.aut;
  going : its.Going l.config l.at l.s l.k l.initial.aut l.i l.aut;
}
