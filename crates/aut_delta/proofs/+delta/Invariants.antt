use Rattle.aut_steps.specs.Tables.{nest}
use Rattle.aut_delta_steps.specs.Delta.{count_of}
use Rattle.aut_delta_steps.proofs.EpsilonDown.{opens}
use Rattle.aut_delta.proofs.Turns.{Turn}
use Rattle.aut_delta.proofs.+delta.Given as goal

abbrev pub decreases-delta : goal.decreases-delta
decreases-delta l = nest l.aut.now.states.words.now l.x

abbrev pub invariant-loop-config : goal.invariant-loop-config
invariant-loop-config l = Turn l.config l.x l.initial.aut l.aut l.entered

abbrev pub decreases-loop-config : goal.decreases-loop-config
decreases-loop-config l = opens (count_of l.aut.states.words.now) l.initial.aut.states.count
