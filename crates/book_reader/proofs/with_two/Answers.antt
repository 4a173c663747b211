use Rattle.std.proofs.Common.{ap, length}
use Rattle.book_steps.specs.Reader.{map}
use Rattle.book_reader.proofs.Saying as saying
use Rattle.book_reader.proofs.Tables as tables
use Rattle.book_reader.proofs.with_two.Goals as goal

pub returns-in-Some : goal.returns-in-Some
returns-in-Some c N = saying.says_bit c.args.word.now N (tables.bit c.args.word.now c.in-Some.ensures)

pub returns-in-Some-named : goal.returns-in-Some-named
returns-in-Some-named c N =
    saying.says_pair c.args.word.now N (tables.bit c.args.word.now c.in_default.ensures) (tables.pair c.args.word.now c.in-Some-named.ensures)

pub returns : goal.returns
returns c N =
    saying.says_so (saying.no_pair c.args.word.now N (tables.bit c.args.word.now c.in_default.ensures) (tables.pair c.args.word.now c.in_default-named.ensures)) (c.with_list.ensures (ap (map length) N))
