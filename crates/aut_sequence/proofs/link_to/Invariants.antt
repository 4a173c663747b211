use Rattle.aut_steps.specs.Tables.{nest}
use Rattle.aut_sequence.proofs.Chain.{Linked}
use Rattle.aut_sequence.proofs.link_to.Given as goal

abbrev pub invariant-loop-w : goal.invariant-loop-w
invariant-loop-w l = Linked l.states.words.now l.x l.u l.w

abbrev pub decreases-loop-w : goal.decreases-loop-w
decreases-loop-w l = nest l.states.words.now l.w
