use Rattle.book_reader.proofs.Decimal as decimal
use Rattle.book_reader.proofs.digits.Given as goal

abbrev pub invariant-loop-b : goal.invariant-loop-b
invariant-loop-b l = decimal.Reading l.word l.n l.b-index
