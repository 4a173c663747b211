use mathlib.Core.Path.{◌∙◌}
use Rattle.std.proofs.Common.{rules}
use Rattle.aut_sequence.specs.Clauses.{joined_of}
use Rattle.aut_sequence.proofs.Tables as tables
use Rattle.aut_sequence.proofs.joined.Goals as goal

pub spp_by-requires : goal.spp_by-requires
spp_by-requires c = tables.relations_ready c.requires (c.both_relations.ensures ∙ c.if-both_relations.true)

pub intern2-requires : goal.intern2-requires
intern2-requires c = tables.sequence_ready c.requires

pub returns-then-both_relations-clause-gives : goal.returns-then-both_relations-clause-gives
unfolding joined_of
returns-then-both_relations-clause-gives c mem = tables.told (search rules) (tables.related _ c.spp_by.ensures.gives mem)
