use Rattle.aut_steps.specs.Tables.{nest}
use Rattle.aut_sequence.proofs.Chain.{Walked}
use Rattle.aut_sequence.proofs.chain_end.Given as goal

abbrev pub invariant-loop-e : goal.invariant-loop-e
invariant-loop-e l = Walked l.states.words.now l.x l.e

abbrev pub decreases-loop-e : goal.decreases-loop-e
decreases-loop-e l = nest l.states.words.now l.e
