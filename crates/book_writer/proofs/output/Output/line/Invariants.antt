use Rattle.slices.specs.Same.{SameSlice}
use Rattle.book_writer.proofs.Lines.{Written}
use Rattle.book_writer.proofs.output.Output.line.Given as goal

abbrev pub invariant-loop-part : goal.invariant-loop-part
invariant-loop-part l = SameSlice l.fn.self.bytes l.self.bytes × Written l.fn.self.bytes.now l.fn.self.at l.word l.parts l.self.bytes.now l.self.at l.part-index
