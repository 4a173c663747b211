use Rattle.std.proofs.Common.{◌∷◌, sym, subst, arith, map, ℕ, Option}
use Rattle.book_steps.specs.Answers.{say}
use Rattle.book_writer.specs.Clauses.{Measures, part_bytes}
use Rattle.book_writer.proofs.Lines as lines
use Rattle.book_writer.proofs.line_length.Goals as goal

pub returns-in_err-n : goal.returns-in_err-n
returns-in_err-n c =
    subst (λ (r : Option ℕ). Measures (say (c.args.word.now ∷ map part_bytes c.args.parts.now)) r) (sym c.from_residual.ensures) (omega (arith, c.in_err-n.ensures, lines.say_length c.args.word.now c.args.parts.now))

pub returns : goal.returns
returns c = lines.measured_line c.args.word.now c.args.parts.now c.checked_add.result c.in_ok-n.ensures c.checked_add.ensures
