use Prim.Native.Nat.{◌-◌}
use Rattle.aut_steps.specs.Tables.{nest}
use Rattle.aut_sequence.proofs.Regroup.{Turn}
use Rattle.aut_sequence.proofs.mk_sequence.Given as goal

abbrev pub invariant-loop-z : goal.invariant-loop-z
invariant-loop-z l = Turn l.config l.x l.y l.initial.aut l.aut l.u l.e l.z

abbrev pub decreases-loop-z : goal.decreases-loop-z
decreases-loop-z l = nest l.initial.aut.states.words.now l.x - nest l.initial.aut.states.words.now l.u
