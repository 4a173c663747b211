use Rattle.book_place.proofs.Names as names
use Rattle.std.proofs.Common.{◌≡◌, ◌∙◌, ap, Result, Err, rules}
use Rattle.std.specs.Result.{IsErr, IsErrAnd}
use Rattle.refusal.specs.declared.Refusal.{Refusal}
use Rattle.refusal.proofs.Passed.{passed}
use Rattle.book_place.proofs.operands.Goals as goal

-- what `?` hands on, where the error that it met was one of another type
passed_on : {A B : Type 0} {r : Result A Refusal} {e f : Refusal} → IsErr r × IsErrAnd r (λ x. x ≡ e) → ◌≡◌ {A = Result B Refusal} (Err e) (Err f) → r ≡ Err f
passed_on {e = e} {f = f} p q = passed p ∙ ap Err (let z : e ≡ f = cc in z)

pub loop-i-init : goal.loop-i-init
loop-i-init c = names.reading_begin c.requires (search rules)

pub returns-in_err-c-clause-gives : goal.returns-in_err-c-clause-gives
returns-in_err-c-clause-gives c =
    let o = c.in_err-c.ensures in
    rw (passed_on c.from_residual.ensures (rw o.ok_part at o.value)) (names.reading_missed c.loop-i.invariant c.loop-i-test.true (rw o.ok_part at c.read_operand.ensures.gives))

pub loop-i-preserved : goal.loop-i-preserved
loop-i-preserved c =
    names.reading_again c.loop-i.invariant (rw c.in_ok-c.ensures.ok_part at c.read_operand.ensures.gives) c.read_operand.ensures.keeps (search rules)

pub returns-clause-gives : goal.returns-clause-gives
returns-clause-gives c = names.reading_end c.loop-i.invariant c.loop-i-test.false
