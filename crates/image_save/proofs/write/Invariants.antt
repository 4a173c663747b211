use Rattle.image_save.specs.Clauses.{word_in}
use Rattle.image_save.proofs.Bytes as bytes
use Rattle.image_save.proofs.write.Given as goal

abbrev pub invariant-loop-b : goal.invariant-loop-b
invariant-loop-b l = bytes.Blocked (word_in l.h l.place) l.n l.initial.image l.image l.b
