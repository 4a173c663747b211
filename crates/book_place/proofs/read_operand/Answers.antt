use mathlib.Core.Path.{refl}
use Rattle.book_place.proofs.Names as names
use Rattle.book_place.proofs.read_operand.Goals as goal

pub returns-in_err-x-clause-gives : goal.returns-in_err-x-clause-gives
returns-in_err-x-clause-gives c = rw c.from_residual-in_err-x.ensures (names.operand_no_line c.args.c c.in_ok-a.next c.in_ok-a.ensures c.in_err-x.ensures, refl)
