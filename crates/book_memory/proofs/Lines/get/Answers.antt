use Rattle.std.proofs.Common.{sym}
use Rattle.book_memory.proofs.Table as table
use Rattle.book_memory.proofs.Lines.get.Goals as goal

pub returns-in_err-get : goal.returns-in_err-get
returns-in_err-get c = rw c.from_residual.ensures (table.line_not _ _ _ c.requires (sym c.in_err-get.ensures.lookup.0))

pub returns : goal.returns
returns c = table.line_read _ _ _ c.requires _ (sym c.in_ok-get.ensures.lookup.0) (c.in_ok-get.ensures.lookup.3.1 0) c.checked_sub.ensures
