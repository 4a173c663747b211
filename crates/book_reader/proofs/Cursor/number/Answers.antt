use Rattle.std.proofs.Common.{sym, ap, ◌∙◌}
use Rattle.book_reader.specs.Clauses.{taken_of}
use Rattle.book_reader.proofs.Saying as saying
use Rattle.book_reader.proofs.Cursor.number.Goals as goal

pub returns-in_err-word : goal.returns-in_err-word
returns-in_err-word c = saying.no_taken c.in_err-word.ensures ∙ ap taken_of (sym c.from_residual.ensures)

pub returns-in_err-n : goal.returns-in_err-n
returns-in_err-n c = saying.word_taken c.in_ok-word.ensures c.in_err-n.ensures ∙ ap taken_of (sym c.from_residual-in_err-n.ensures)

pub returns : goal.returns
returns c = saying.word_taken c.in_ok-word.ensures c.in_ok-n.ensures
