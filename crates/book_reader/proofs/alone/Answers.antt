use Rattle.std.proofs.Common.{ap, length}
use Rattle.book_steps.specs.Reader.{map}
use Rattle.book_reader.proofs.Saying as saying
use Rattle.book_reader.proofs.Tables as tables
use Rattle.book_reader.proofs.alone.Goals as goal

pub returns-in-Some : goal.returns-in-Some
returns-in-Some c N = saying.says_constant c.args.word.now N (tables.constant c.args.word.now c.in-Some.ensures)

pub returns : goal.returns
returns c N =
    saying.says_so (saying.no_constant c.args.word.now N (tables.constant c.args.word.now c.in_default.ensures)) (c.with_list.ensures (ap (map length) N))
