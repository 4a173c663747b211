use mathlib.Core.Path.{sym, ◌∙◌}
use Rattle.refusal.proofs.Passed.{passed}
use Rattle.aut_empty_walk.proofs.Walks as walks
use Rattle.aut_empty_walk.proofs.follow.Goals as goal

pub push-requires : goal.push-requires
push-requires c = walks.push_asks c.requires

pub returns-in_err-next-clause-gives : goal.returns-in_err-next-clause-gives
returns-in_err-next-clause-gives c = walks.follow_stuck c.requires c.in_err-next.ensures.keeps (passed c.from_residual.ensures) c.in_err-next.ensures.gives

pub returns-then-is_zero-clause-gives : goal.returns-then-is_zero-clause-gives
returns-then-is_zero-clause-gives c = walks.follow_zero c.requires c.in_ok-next.ensures.keeps c.in_ok-next.ensures.gives (sym c.if-is_zero.true ∙ c.is_zero.ensures)

pub returns-clause-gives : goal.returns-clause-gives
returns-clause-gives c =
    walks.follow_put c.requires c.in_ok-next.ensures.keeps c.in_ok-next.ensures.gives c.put.ensures.keeps c.put.ensures.states (sym c.if-is_zero.false ∙ c.is_zero.ensures) c.put.result c.put.ensures.gives c.ok_or.ensures.value
