use Rattle.std.proofs.Common.{◌≤◌}
use Rattle.replay_books.proofs.number.Given as goal

abbrev pub invariant-loop-i : goal.invariant-loop-i
invariant-loop-i l = l.value ≤ 99999999
