use Rattle.image_read.proofs.Lines as lines
use Rattle.image_read.proofs.read_members.Given as goal

abbrev pub invariant-loop-i : goal.invariant-loop-i
invariant-loop-i l = lines.MembersAt l.image l.s l.k l.i
