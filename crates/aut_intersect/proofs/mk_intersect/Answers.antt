use mathlib.Core.Path.{refl, ◌∙◌}
use Rattle.aut_union.proofs.Calls as calls
use Rattle.aut_intersect.proofs.Chain.{of_pair}
use Rattle.aut_intersect.proofs.mk_intersect.Goals as goal

pub returns-then-x-y-clause-gives : goal.returns-then-x-y-clause-gives
returns-then-x-y-clause-gives c = calls.same c.requires.0 c.requires.1 of_pair c.if-x-y.true

pub spp_of-requires : goal.spp_of-requires
spp_of-requires c = calls.both_asked c.requires.0 c.requires.1 (c.both_relations.ensures ∙ c.if-both_relations.true)

pub returns-then-both_relations-clause-gives : goal.returns-then-both_relations-clause-gives
returns-then-both_relations-clause-gives c =
    calls.both c.requires.0 c.requires.1 of_pair c.if-x-y.false (c.both_relations.ensures ∙ c.if-both_relations.true) c.spp_of.ensures.gives

pub mk_intersect_n-requires : goal.mk_intersect_n-requires
mk_intersect_n-requires c = calls.pair_asked c.requires.0 c.requires.1 of_pair c.if-x-y.false _ refl refl refl

pub returns-clause-gives : goal.returns-clause-gives
returns-clause-gives c =
    calls.pair_done c.requires.0 c.requires.1 of_pair c.if-x-y.false _ refl refl refl (c.both_relations.ensures ∙ c.if-both_relations.false) c.mk_intersect_n.ensures.gives
