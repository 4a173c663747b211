use mathlib.Core.Path.{sym, ◌∙◌}
use Rattle.aut_delta_lists.proofs.Alone as alone
use Rattle.aut_delta_lists.proofs.st_singleton.Goals as goal

pub returns-then-eq-clause-gives : goal.returns-then-eq-clause-gives
returns-then-eq-clause-gives c = alone.every c.requires (λ t m L e. alone.label_zero L e c.zero-zero.ensures (sym c.eq.ensures ∙ c.if-eq.true))

pub returns-in_err-z-clause-gives : goal.returns-in_err-z-clause-gives
returns-in_err-z-clause-gives c = alone.every c.requires (λ t m L e. alone.single_stuck L e c.zero-zero.ensures (sym c.eq.ensures ∙ c.if-eq.false) _ c.from_residual.ensures c.in_err-z.ensures.gives)

pub returns-then-t-z-clause-gives : goal.returns-then-t-z-clause-gives
returns-then-t-z-clause-gives c = alone.every c.requires (λ t m L e. alone.target_zero L e c.zero-zero.ensures (sym c.eq.ensures ∙ c.if-eq.false) c.in_ok-z.ensures.same_table c.in_ok-z.ensures.gives c.if-t-z.true)

pub returns-clause-gives : goal.returns-clause-gives
returns-clause-gives c =
    alone.every c.requires (λ t m L e. alone.one_edge L e c.zero-zero.ensures (sym c.eq.ensures ∙ c.if-eq.false) c.in_ok-z.ensures.same_table c.in_ok-z.ensures.gives c.if-t-z.false c.put.ensures c.put.auto.words)
