use Rattle.std.proofs.Common.{sym, subst}
use Rattle.book_steps.specs.Reader.{numbers}
use Rattle.book_reader.specs.Clauses.{rest, Says, listing}
use Rattle.book_reader.proofs.Saying as saying
use Rattle.book_reader.proofs.Tables as tables
use Rattle.book_reader.proofs.with_list.Goals as goal

pub returns-in_err-w : goal.returns-in_err-w
returns-in_err-w c C =
    subst (Says (listing c.args.word.now (numbers (rest c.args.c)))) (sym c.from_residual.ensures) (saying.says_nothing c.args.word.now c.args.c C (tables.listed c.args.word.now c.in_err-w.ensures))

pub returns : goal.returns
returns c C = saying.says_listed c.args.word.now c.args.c C (tables.listed c.args.word.now c.in_ok-w.ensures)
