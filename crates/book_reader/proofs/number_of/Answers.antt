use Rattle.std.proofs.Common.{◌∙◌, rules, tests}
use Rattle.book_reader.proofs.Decimal as decimal
use Rattle.book_reader.proofs.number_of.Goals as goal
use Rattle.book_reader.proofs.number_of.Goals.{in_default-via-then-word-lt2, in_default-via-else-word-lt2+in_default-1}

pub returns-in-empty : goal.returns-in-empty
returns-in-empty c = decimal.no_bytes c.args.word.now c.in-empty.len_below

pub returns-in-empty-2 : goal.returns-in-empty-2
returns-in-empty-2 c = decimal.leading c.args.word.now c.in-empty.len_at_least (search (rules, tests))

pub returns-in_default : goal.returns-in_default
returns-in_default c = elim c.in_default.branch [
  | in_default-via-then-word-lt2 w ↦ decimal.one_digit c.args.word.now (search (rules, tests)) (search (rules, tests))
  | in_default-via-else-word-lt2+in_default-1 w ↦ decimal.no_zero c.args.word.now (search (rules, tests)) (search (rules, tests))
] ∙ c.digits.ensures
