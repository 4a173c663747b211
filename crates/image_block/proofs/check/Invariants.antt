use Rattle.image_block.proofs.Sum as its
use Rattle.image_block.proofs.check.Given as goal

abbrev pub invariant-loop-i : goal.invariant-loop-i
invariant-loop-i l = its.Summed l.front l.sum l.i
