use native.Mathlib.Omega.{arith}
use Rattle.book_steps.specs.Text.{bytes, decimal}
use Rattle.book_writer.proofs.Lines as lines
use Rattle.book_writer.proofs.pair_length.Goals as goal

pub returns : goal.returns
returns c = (omega (arith, lines.length_three (bytes "pair") (decimal c.args.target) (decimal c.args.number)), omega arith)
