use native.Mathlib.Omega.{arith}
use Rattle.book_writer.proofs.Contracts.{put_of}
use Rattle.book_writer.proofs.Sentence as sentence
use Rattle.book_writer.proofs.output.Output.put_packet.Goals as goal

pub put-requires : goal.put-requires
put-requires c = omega (arith, c.requires, sentence.word_least c.args.fields)

pub returns-then-fields-eq0-clause-puts : goal.returns-then-fields-eq0-clause-puts
returns-then-fields-eq0-clause-puts c = put_of (sentence.word_dash c.args.fields c.args.packet (omega (arith, c.if-fields-eq0.true))) c.put.ensures.puts

pub put_digits-requires : goal.put_digits-requires
put_digits-requires c =
    (omega (arith, c.requires, sentence.word_some c.args.fields (omega (arith, c.if-fields-eq0.false))), omega arith, omega arith)

pub returns-else-fields-eq0-clause-puts : goal.returns-else-fields-eq0-clause-puts
returns-else-fields-eq0-clause-puts c =
    put_of (sentence.word_bits c.args.fields c.args.packet (omega (arith, c.if-fields-eq0.false))) c.put_digits.ensures.puts
