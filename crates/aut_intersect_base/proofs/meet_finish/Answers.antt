use mathlib.Core.Path.{refl, ◌∙◌}
use Rattle.aut_intersect_base.proofs.Gather as gather
use Rattle.aut_intersect_base.proofs.meet_finish.Goals as goal

pub returns-then-nothing-clause-gives : goal.returns-then-nothing-clause-gives
returns-then-nothing-clause-gives c =
    gather.at_zero c.requires c.mk_spp.new.self refl refl (c.nothing.ensures ∙ c.if-nothing.true) c.zero.ensures c.mk_spp.ensures.gives

pub returns-then-k-eq0-clause-gives : goal.returns-then-k-eq0-clause-gives
returns-then-k-eq0-clause-gives c =
    gather.at_none c.requires c.alone.new.states refl refl (c.nothing.ensures ∙ c.if-nothing.false) c.if-k-eq0.true (c.alone.ensures.gives c.args.config.fields)

pub returns-clause-gives : goal.returns-clause-gives
returns-clause-gives c = gather.at_list c.requires (c.nothing.ensures ∙ c.if-nothing.false) c.if-k-eq0.false c.meet_list.ensures.gives
