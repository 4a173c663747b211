use mathlib.Core.Path.{◌∙◌}
use native.Mathlib.Omega.{arith}
use Rattle.image_nodes.proofs.Node as its
use Rattle.image_nodes.proofs.make_relation.Goals as goal

pub returns-then-not-quad_fits-clause-gives : goal.returns-then-not-quad_fits-clause-gives
returns-then-not-quad_fits-clause-gives c = its.unfit (its.relation_wanted _ _ _ _ _) (c.quad_fits.ensures ∙ c.if-not-quad_fits.true)

pub returns-in-Ok-clause-gives : goal.returns-in-Ok-clause-gives
returns-in-Ok-clause-gives c =
    its.same (its.relation_wanted _ _ _ _ _) (c.quad_fits.ensures ∙ c.if-not-quad_fits.false) c.in-Ok.ensures.gives (λ a b e. omega (arith, e)) (omega (arith, c.if-h-i.true))

pub returns-in-Err-clause-gives : goal.returns-in-Err-clause-gives
returns-in-Err-clause-gives c =
    its.no_room (its.relation_wanted _ _ _ _ _) (c.quad_fits.ensures ∙ c.if-not-quad_fits.false) c.in-Err.ensures.gives c.requires.near c.if-next.true

pub returns-in_default-clause-gives : goal.returns-in_default-clause-gives
returns-in_default-clause-gives c = its.other (its.relation_wanted _ _ _ _ _) (c.quad_fits.ensures ∙ c.if-not-quad_fits.false) c.in-Ok.ensures.gives (λ e. omega (arith, e, c.if-h-i.false))

pub returns-in_default-2-clause-gives : goal.returns-in_default-2-clause-gives
returns-in_default-2-clause-gives c =
    its.no_room_wrong (its.relation_wanted _ _ _ _ _) (c.quad_fits.ensures ∙ c.if-not-quad_fits.false) c.in-Err.ensures.gives c.if-next.false
