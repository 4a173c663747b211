use Rattle.std.proofs.Common.{◌≡◌, Option, Some, ◌∙◌, ap}
use Rattle.refusal.proofs.Passed.{passed}
use Rattle.book_place.proofs.Telling as telling
use Rattle.book_place.proofs.tell.Goals as goal

-- the line said something, and this
by : {A : Type 0} {o : Option A} {a b : A} → o ≡ Some a → a ≡ b → o ≡ Some b
by e f = e ∙ ap Some f

pub returns-in_err-x-in-Single-clause-tells : goal.returns-in_err-x-in-Single-clause-tells
returns-in_err-x-in-Single-clause-tells c =
    let o = c.in_err-x-in-Single.ensures in
    rw (passed c.from_residual-in_err-x-in-Single.ensures, o.1) (telling.told_no_single _ _ o.0 (by c.in_ok-said.ensures.ok_part c.in-Single.is))

pub returns-in_err-x-in-Query-clause-tells : goal.returns-in_err-x-in-Query-clause-tells
returns-in_err-x-in-Query-clause-tells c =
    let o = c.in_err-x-in-Query.ensures in
    rw (passed c.from_residual-in_err-x-in-Query.ensures, o.1) (telling.told_no_query _ _ o.0 (by c.in_ok-said.ensures.ok_part c.in-Query.is))

pub returns-in-Constant-clause-tells : goal.returns-in-Constant-clause-tells
returns-in-Constant-clause-tells c = telling.told_constant _ _ (by c.in_ok-said.ensures.ok_part c.in-Constant.is)

pub returns-in-Bit-clause-tells : goal.returns-in-Bit-clause-tells
returns-in-Bit-clause-tells c = telling.told_bit _ _ (by c.in_ok-said.ensures.ok_part c.in-Bit.is) c.told_bit.ensures

pub returns-in_ok-x-in-Single-clause-tells : goal.returns-in_ok-x-in-Single-clause-tells
returns-in_ok-x-in-Single-clause-tells c = telling.told_single _ _ c.in_ok-x-in-Single.ensures (by c.in_ok-said.ensures.ok_part c.in-Single.is)

pub returns-in-Pair-clause-tells : goal.returns-in-Pair-clause-tells
returns-in-Pair-clause-tells c = telling.told_pair _ _ (by c.in_ok-said.ensures.ok_part c.in-Pair.is) c.told_pair.ensures

pub returns-in-Listed-clause-tells : goal.returns-in-Listed-clause-tells
returns-in-Listed-clause-tells c = telling.told_listed _ _ (by c.in_ok-said.ensures.ok_part c.in-Listed.is) c.requires c.told_list.ensures.tells

pub returns-in_ok-x-in-Query-clause-tells : goal.returns-in_ok-x-in-Query-clause-tells
returns-in_ok-x-in-Query-clause-tells c = telling.told_query _ _ c.in_ok-x-in-Query.ensures (by c.in_ok-said.ensures.ok_part c.in-Query.is)
