use Rattle.book_place.proofs.Names.{Reading}
use Rattle.book_place.proofs.operands.Given as goal

abbrev pub invariant-loop-i : goal.invariant-loop-i
invariant-loop-i l = Reading l.most l.initial.c l.n l.initial.place l.place l.c l.i
