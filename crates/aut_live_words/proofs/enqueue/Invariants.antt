use Rattle.aut_sets.specs.Lent.{OnlyMarks}
use Rattle.aut_live_words.proofs.Words.{Enqueueing}
use Rattle.aut_live_words.proofs.enqueue.Given as goal

abbrev pub invariant-loop-i : goal.invariant-loop-i
invariant-loop-i l =
    OnlyMarks l.initial.aut l.aut × Enqueueing l.config.fields l.list l.initial.n l.initial.aut.states.words.now l.initial.aut.transitions.words.now l.initial.aut.pending.now l.aut.states.words.now l.aut.pending.now l.n l.i
