use mathlib.Core.Path.{◌∙◌}
use native.Mathlib.Omega.{arith}
use Rattle.image_nodes.proofs.Node as its
use Rattle.image_nodes.proofs.make_node.Goals as goal

pub returns-then-not-children_fit-clause-gives : goal.returns-then-not-children_fit-clause-gives
returns-then-not-children_fit-clause-gives c = its.unfit (its.node_wanted _ _ _ _ _ _) (c.children_fit.ensures ∙ c.if-not-children_fit.true)

pub returns-in-Ok-clause-gives : goal.returns-in-Ok-clause-gives
returns-in-Ok-clause-gives c =
    its.same (its.node_wanted _ _ _ _ _ _) (c.children_fit.ensures ∙ c.if-not-children_fit.false) c.in-Ok.ensures.gives (λ a b e. omega (arith, e)) (omega (arith, c.if-h-i.true))

pub returns-in-Err-clause-gives : goal.returns-in-Err-clause-gives
returns-in-Err-clause-gives c =
    its.no_room (its.node_wanted _ _ _ _ _ _) (c.children_fit.ensures ∙ c.if-not-children_fit.false) c.in-Err.ensures.gives c.requires.near c.if-next.true

pub returns-in_default-clause-gives : goal.returns-in_default-clause-gives
returns-in_default-clause-gives c = its.other (its.node_wanted _ _ _ _ _ _) (c.children_fit.ensures ∙ c.if-not-children_fit.false) c.in-Ok.ensures.gives (λ e. omega (arith, e, c.if-h-i.false))

pub returns-in_default-2-clause-gives : goal.returns-in_default-2-clause-gives
returns-in_default-2-clause-gives c =
    its.no_room_wrong (its.node_wanted _ _ _ _ _ _) (c.children_fit.ensures ∙ c.if-not-children_fit.false) c.in-Err.ensures.gives c.if-next.false
