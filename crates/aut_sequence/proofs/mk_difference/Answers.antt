use mathlib.Core.Path.{◌∙◌}
use borrow.Author.Tests.{ne_eqb}
use Rattle.aut_steps.specs.Constructors as C
use Rattle.aut_sequence.proofs.Tables as tables
use Rattle.aut_sequence.proofs.mk_difference.Goals as goal

pub spp_of-requires : goal.spp_of-requires
spp_of-requires c = tables.relations_ready c.requires (c.both_relations.ensures ∙ c.if-both_relations.true)

pub intern2-requires : goal.intern2-requires
intern2-requires c = tables.difference_ready c.requires

pub returns-then-both_relations-clause-gives : goal.returns-then-both_relations-clause-gives
unfolding C.mk_difference
returns-then-both_relations-clause-gives c mem = tables.told (simp (ne_eqb c.args.x c.args.y c.if-x-y.false, c.both_relations.ensures ∙ c.if-both_relations.true)) (tables.related _ c.spp_of.ensures.gives mem)
