use Rattle.aut_steps.specs.Tables.{nest}
use Rattle.aut_operands.proofs.Down.{Reached}
use Rattle.aut_operands.proofs.lowest.Given as goal

abbrev pub invariant-loop-z : goal.invariant-loop-z
invariant-loop-z l = Reached l.states.words.now l.members.words.now l.x l.y

abbrev pub decreases-loop-z : goal.decreases-loop-z
decreases-loop-z l = nest l.states.words.now l.y
