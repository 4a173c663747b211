use Rattle.std.proofs.Common.{rules}
use Rattle.book_memory.proofs.Table as table
use Rattle.book_memory.proofs.Lines.add.Goals as goal

pub returns-clause-lines : goal.returns-clause-lines
returns-clause-lines c = table.lines_more _ _ c.requires.room (search rules)
