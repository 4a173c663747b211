use Rattle.std.proofs.Common.{arith}
use Rattle.slices.proofs.Same.{slice_trans}
use Rattle.book_writer.proofs.Lines as lines
use Rattle.book_writer.proofs.output.Output.line.Goals as goal

pub put-requires : goal.put-requires
put-requires c = omega (arith, lines.line_room c.args.word.now c.args.parts.now c.args.self.now.at c.in_ok-room.ensures (rw c.in_ok-n.ensures.ok_part at c.line_length.ensures))

pub loop-part-init : goal.loop-part-init
loop-part-init c = (
  c.put.ensures.keeps,
  lines.begin_line c.args.parts.now (lines.line_room c.args.word.now c.args.parts.now c.args.self.now.at c.in_ok-room.ensures (rw c.in_ok-n.ensures.ok_part at c.line_length.ensures)) c.put.ensures.puts,
)

pub put_byte-requires : goal.put_byte-requires
put_byte-requires c = lines.one_byte c.loop-part.invariant.1

pub put_part-requires : goal.put_part-requires
put_part-requires c = lines.part_fits c.loop-part.invariant.1 c.loop-part-test.true c.put_byte.ensures.puts

pub loop-part-preserved : goal.loop-part-preserved
loop-part-preserved c = (
  slice_trans c.loop-part.invariant.0 (slice_trans c.put_byte.ensures.keeps c.put_part.ensures.keeps),
  lines.part_more c.loop-part.invariant.1 c.loop-part-test.true c.put_byte.ensures.puts c.put_part.ensures.puts,
)

pub put_byte-requires-2 : goal.put_byte-requires-2
put_byte-requires-2 c = lines.one_byte c.loop-part.invariant.1

pub returns-clause-answers : goal.returns-clause-answers
returns-clause-answers c = lines.line_done c.loop-part.invariant.1 c.loop-part-test.false c.put_byte-2.ensures.puts
