use mathlib.Core.Path.{◌∙◌, sym}
use Rattle.std.proofs.Common.{rules}
use Rattle.aut_steps.specs.Constructors as C
use Rattle.aut_sequence.proofs.Tables as tables
use Rattle.aut_sequence.proofs.mk_star.Goals as goal

pub spp_by-requires : goal.spp_by-requires
spp_by-requires c = tables.relation_x c.requires (sym c.kind.ensures ∙ c.in-1.is)

pub intern1-requires : goal.intern1-requires
intern1-requires c = tables.star_ready c.requires

pub returns-in-1-clause-gives : goal.returns-in-1-clause-gives
unfolding C.mk_star
returns-in-1-clause-gives c mem = tables.told (search rules) (tables.related _ c.spp_by.ensures.gives mem)
