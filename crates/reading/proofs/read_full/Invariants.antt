use Rattle.std.proofs.Common.{◌≤◌, ◌-◌, length}
use Rattle.reading.proofs.read_full.Given as goal

abbrev pub invariant-loop-got : goal.invariant-loop-got
invariant-loop-got g l = l.got ≤ length l.text

abbrev pub decreases-loop-got : goal.decreases-loop-got
decreases-loop-got g l = length l.initial.text - l.got
