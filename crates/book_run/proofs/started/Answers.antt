use Rattle.book_run.proofs.Whole as whole
use Rattle.book_run.proofs.started.Goals as goal

pub returns-then-n-gt31-clause-gives : goal.returns-then-n-gt31-clause-gives
returns-then-n-gt31-clause-gives c = whole.started_wide c.args.book.now c.args.place.now (rw c.in_ok-c.ensures.ok_part at c.line_at.ensures) c.header.ensures c.in_ok-n.ensures.ok_part c.if-n-gt31.true
