use mathlib.Core.Path.{sym, refl, ◌∙◌}
use native.Mathlib.Omega.{arith}
use Rattle.aut_intersect_base.proofs.Gather as gather
use Rattle.aut_intersect_base.proofs.meet_one.Goals as goal

pub returns-in-12-clause-gives : goal.returns-in-12-clause-gives
returns-in-12-clause-gives c = gather.is_top c.args.p c.requires (sym c.kind.ensures ∙ c.in-12.is)

pub returns-in_err-u-in-1-clause-gives : goal.returns-in_err-u-in-1-clause-gives
returns-in_err-u-in-1-clause-gives c =
    gather.not_joined c.args.p c.requires (λ e. omega (arith, e, c.kind.ensures, c.in-1.is)) (sym c.kind.ensures ∙ c.in-1.is) c.relation-g.ensures c.relation_of-h.ensures c.from_residual.ensures c.in_err-u-in-1.ensures.gives

pub returns-in_ok-u-in-1-clause-gives : goal.returns-in_ok-u-in-1-clause-gives
returns-in_ok-u-in-1-clause-gives c =
    gather.joined c.args.p c.requires (λ e. omega (arith, e, c.kind.ensures, c.in-1.is)) (sym c.kind.ensures ∙ c.in-1.is) c.relation-g.ensures c.relation_of-h.ensures c.in_ok-u-in-1.ensures.gives

pub returns-in_default-clause-gives : goal.returns-in_default-clause-gives
returns-in_default-clause-gives c =
    gather.other c.args.p c.requires (λ e. omega (arith, c.kind.ensures, c.in_default)) (λ e. omega (arith, c.kind.ensures, c.in_default)) refl refl
