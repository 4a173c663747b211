use Rattle.std.proofs.Common.{arith}
use Rattle.book_steps.specs.Text.{bytes, decimal}
use Rattle.book_writer.proofs.Lines as lines
use Rattle.book_writer.proofs.head_length.Goals as goal

pub returns : goal.returns
returns c = (omega (arith, lines.length_three (bytes "pruned") c.args.name.now (decimal c.args.k)), omega arith)
