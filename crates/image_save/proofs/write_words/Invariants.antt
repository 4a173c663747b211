use Prim.Native.Nat.{◌+◌, ◌*◌}
use Rattle.image_save.specs.Clauses.{word_in}
use Rattle.image_save.proofs.Bytes as bytes
use Rattle.image_save.proofs.write_words.Given as goal

abbrev pub invariant-loop-j : goal.invariant-loop-j
invariant-loop-j l = bytes.Worded (word_in l.h l.place l.b) l.initial.image (512 * l.b + 2) l.image l.j
