use Rattle.aut_sets.specs.Lent.{OnlyMarks}
use Rattle.aut_why_words.proofs.Loops.{Clearing}
use Rattle.aut_why_words.proofs.clear.Given as goal

abbrev pub invariant-loop-i : goal.invariant-loop-i
invariant-loop-i l = record {
  keeps : OnlyMarks l.initial.aut l.aut;
  words : Clearing l.n l.initial.aut.states.words.now l.initial.aut.pending.now l.aut.states.words.now l.aut.pending.now l.i;
}
