use Rattle.aut_live_words.proofs.Words.{Copying}
use Rattle.aut_live_words.proofs.copy_in.Given as goal

abbrev pub invariant-loop-i : goal.invariant-loop-i
invariant-loop-i l = Copying l.n l.from l.to l.initial.words l.pending l.words l.i
