use mathlib.Core.Path.{sym, refl, ◌∙◌}
use Rattle.aut_union.proofs.Gather as gather
use Rattle.aut_union.proofs.unite_one.Goals as goal

pub returns-in_err-relation-clause-gives : goal.returns-in_err-relation-clause-gives
returns-in_err-relation-clause-gives c =
    gather.not_united c.args.p c.requires (sym c.kind.ensures ∙ c.if-kind-eq-SPP.true) c.relation-h.ensures c.from_residual.ensures c.in_err-relation.ensures.gives

pub returns-then-kind-eq-SPP-clause-gives : goal.returns-then-kind-eq-SPP-clause-gives
returns-then-kind-eq-SPP-clause-gives c =
    gather.united c.args.p c.requires (sym c.kind.ensures ∙ c.if-kind-eq-SPP.true) c.relation-h.ensures c.in_ok-relation.ensures.gives

pub returns-clause-gives : goal.returns-clause-gives
returns-clause-gives c =
    gather.other c.args.p c.requires (λ e. c.if-kind-eq-SPP.false (c.kind.ensures ∙ e)) refl refl
