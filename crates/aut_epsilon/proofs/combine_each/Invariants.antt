use Rattle.spp.specs.Clauses.{op_of}
use Rattle.aut_epsilon.proofs.Together.{Turn}
use Rattle.aut_epsilon.proofs.combine_each.Given as goal

abbrev pub invariant-loop-i : goal.invariant-loop-i
invariant-loop-i l = Turn l.config.fields (op_of l.op) l.initial.g.0 l.from l.k l.initial.aut l.aut l.g.0 l.i
