use mathlib.Core.Path.{◌≡◌}
use Rattle.aut_sets.specs.Lent.{OnlyMarks}
use Rattle.aut_empty_words.specs.Words.{Rested}
use Rattle.aut_empty_words.proofs.clear_seen.Given as goal

abbrev pub invariant-loop-i : goal.invariant-loop-i
invariant-loop-i l = Rested l.initial.aut.states.words.now l.i l.aut.states.words.now × OnlyMarks l.initial.aut l.aut × (l.aut.pending ≡ l.initial.aut.pending)
