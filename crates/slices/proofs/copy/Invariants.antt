use Rattle.std.specs.List.{SameBelow}
use Rattle.slices.proofs.copy.Given as goal

abbrev pub invariant-loop-i : goal.invariant-loop-i
invariant-loop-i g l = SameBelow l.list l.out l.i
