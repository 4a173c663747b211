use Rattle.std.proofs.Common.{refl, sym, subst}
use Rattle.book_reader.specs.Clauses.{Cuts}
use Rattle.book_reader.proofs.Parts as parts
use Rattle.book_reader.proofs.line_at.Goals as goal

pub returns-in_err-k : goal.returns-in_err-k
returns-in_err-k c = subst (Cuts c.args.text.now) (sym c.from_residual.ensures) (parts.cut_not c.args.text.now c.in_err-k.ensures)

pub returns : goal.returns
returns c = let e = c.in_ok-k.ensures in record { line = _; is = parts.some_line c.args.text.now e.0 e.1; words = refl }
