use Rattle.slices.specs.Same.{SameSlice}
use Rattle.image_read.proofs.Lines as lines
use Rattle.image_read.proofs.read_lines.Given as goal

abbrev pub invariant-loop-i : goal.invariant-loop-i
invariant-loop-i l = record {
  keeps : SameSlice l.initial.lines.words l.lines.words;
  at : lines.LinesAt l.image l.s l.k l.states l.initial.lines l.i l.lines;
}
