use Rattle.std.proofs.Common.{rules}
use Rattle.book_finish.specs.Clauses.{number_of, text_line_of, length_of}
use Rattle.book_run.specs.Clauses.{slices}
use Rattle.netcheck.proofs.Whole.{writes_told}
use Rattle.netcheck.proofs.answer.Goals as goal

pub returns : goal.returns
returns c =
    let ran = c.run-ran.result in
    rw c.closing_line-length.ensures.length (writes_told {m' = slices c.run-ran.new.sp c.run-ran.new.spp c.run-ran.new.states c.run-ran.new.members c.run-ran.new.transitions c.run-ran.new.pending c.run-ran.new.scratch c.run-ran.new.output} (number_of ran) (text_line_of ran) (length_of ran) c.closing_line-length.new.line.bytes.now c.if-over.false c.requires.0 c.run-ran.ensures c.closing_line-length.ensures.stands (search rules))
