use Rattle.book_steps.proofs.Sentence.{word_length_lem}
use native.Mathlib.Omega.{arith}
use Rattle.book_writer.proofs.Contracts.{put_append}
use Rattle.book_writer.proofs.output.Output.put_end.Goals as goal

pub put_byte-requires : goal.put_byte-requires
put_byte-requires c =
    omega (arith, c.requires, c.put_behind.ensures.puts.behind, word_length_lem c.args.fields c.args.packet, c.put_behind.ensures.puts.wrote.len)

pub returns-clause-puts : goal.returns-clause-puts
returns-clause-puts c = put_append c.put_behind.ensures.puts c.put_byte.ensures.puts
