use mathlib.Core.Path.{sym, ◌∙◌}
use native.Mathlib.Omega.{arith}
use borrow.Author.Tests.{eqb-true, eqb-false}
use Rattle.aut_live_words.specs.Work.{work_of, Enlarges}
use Rattle.aut_live_words.proofs.enlarge.Goals as goal

pub returns-then-eq-clause-gives : goal.returns-then-eq-clause-gives
unfolding work_of
returns-then-eq-clause-gives c = Enlarges.same (eqb-true _ _ (sym c.if-eq.ensures) ∙ c.set_at.ensures)

pub returns-then-m-capacity-clause-gives : goal.returns-then-m-capacity-clause-gives
unfolding work_of
returns-then-m-capacity-clause-gives c =
    rw (c.put_set.ensures.gives, c.put_set.ensures.pending)
    (Enlarges.more (λ q. eqb-false _ _ (sym c.if-eq.ensures) (q ∙ sym c.set_at.ensures)) (omega (arith, c.capacity.ensures, c.if-m-capacity.true)))

pub returns-clause-gives : goal.returns-clause-gives
unfolding work_of
returns-clause-gives c = Enlarges.full (λ q. eqb-false _ _ (sym c.if-eq.ensures) (q ∙ sym c.set_at.ensures)) (omega (arith, c.capacity.ensures, c.if-m-capacity.false))
