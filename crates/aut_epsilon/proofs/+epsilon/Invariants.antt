use Rattle.aut_steps.specs.Tables.{nest}
use Rattle.aut_delta_steps.specs.Epsilon.{epsilon_of}
use Rattle.aut_delta_steps.proofs.EpsilonDown.{opens}
use Rattle.aut_epsilon.proofs.Turns.{Turn}
use Rattle.aut_epsilon.proofs.+epsilon.Given as goal

abbrev pub decreases-epsilon : goal.decreases-epsilon
decreases-epsilon l = nest l.aut.now.states.words.now l.x

abbrev pub invariant-loop-aut : goal.invariant-loop-aut
invariant-loop-aut l = Turn l.config.fields l.x l.initial.aut l.aut

abbrev pub decreases-loop-aut : goal.decreases-loop-aut
decreases-loop-aut l = opens (epsilon_of l.aut.states.words.now) l.aut.states.count
