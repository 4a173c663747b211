use Rattle.spp.specs.Clauses.{store_of}
use Rattle.image_nodes.proofs.Rows as its
use Rattle.image_nodes.proofs.read_relation.Goals as goal

pub returns-clause-gives : goal.returns-clause-gives
returns-clause-gives c =
    its.relation_read c.args.image.now c.args.relations.now.fields c.args.i c.args.s (store_of c.args.relations.now) c.requires.0 c.enter.ensures c.in_ok-enter.was c.quad_at-x.ensures c.make_relation.ensures.gives
