use Rattle.aut_steps.specs.Tables.{nest}
use Rattle.aut_delta.proofs.Ways.{Walk}
use Rattle.aut_delta.proofs.descend.Given as goal

abbrev pub invariant-loop-z : goal.invariant-loop-z
invariant-loop-z l = Walk l.config l.x l.entered l.initial.aut l.aut l.y l.i

abbrev pub decreases-loop-z : goal.decreases-loop-z
decreases-loop-z l = nest l.initial.aut.states.words.now l.y
