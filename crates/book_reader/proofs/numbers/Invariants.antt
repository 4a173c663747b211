use Rattle.std.proofs.Common.{length}
use Rattle.book_steps.specs.Text.{words}
use Rattle.book_reader.specs.Clauses.{rest}
use Rattle.book_reader.proofs.Saying as saying
use Rattle.book_reader.proofs.numbers.Given as goal

abbrev pub invariant-loop-c : goal.invariant-loop-c
invariant-loop-c l = saying.Counting (words l.line) (rest l.c) l.k

abbrev pub decreases-loop-c : goal.decreases-loop-c
decreases-loop-c l = length (rest l.c)
