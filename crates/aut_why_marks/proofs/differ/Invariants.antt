use Rattle.aut_why_words.specs.Words.{moved_at}
use Rattle.aut_why_marks.proofs.Loops.{Filling}
use Rattle.aut_why_marks.proofs.differ.Given as goal

abbrev pub invariant-loop-i : goal.invariant-loop-i
invariant-loop-i l = Filling 11 (λ x. moved_at l.initial.words x) l.n l.pending l.initial.words l.words l.i
