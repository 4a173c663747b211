use Rattle.refusal.proofs.Passed.{passed}
use Rattle.book_place.proofs.Telling as telling
use Rattle.book_place.proofs.told_list.Goals as goal

pub returns-in_err-operands-clause-tells : goal.returns-in_err-operands-clause-tells
returns-in_err-operands-clause-tells c = rw (passed c.from_residual.ensures) (telling.list_bad _ _ _ c.in_err-operands.ensures.gives)

pub returns-then-n-most-clause-tells : goal.returns-then-n-most-clause-tells
returns-then-n-most-clause-tells c = telling.list_too_long _ _ _ c.in_ok-operands.ensures.gives c.if-n-most.true

pub returns-clause-tells : goal.returns-clause-tells
returns-clause-tells c = telling.list_makes _ _ _ c.in_ok-operands.ensures.gives c.if-n-most.false c.requires.first.few
