use Rattle.std.proofs.Common.{sym, ap, ◌∙◌}
use Rattle.book_reader.specs.Clauses.{passed_of}
use Rattle.book_reader.proofs.Saying as saying
use Rattle.book_reader.proofs.Cursor.pass.Goals as goal

pub returns-in_err-word : goal.returns-in_err-word
returns-in_err-word c = saying.no_passed c.args.name.now c.in_err-word.ensures ∙ ap passed_of (sym c.from_residual.ensures)

pub returns : goal.returns
returns c = saying.passes c.in_ok-word.next c.in_ok-word.ensures c.args.name.now c.eq.ensures c.then_some.ensures
