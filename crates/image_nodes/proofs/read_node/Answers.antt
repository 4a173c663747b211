use Rattle.sp.specs.Clauses.{store_of}
use Rattle.image_nodes.proofs.Rows as its
use Rattle.image_nodes.proofs.read_node.Goals as goal

pub returns-clause-gives : goal.returns-clause-gives
returns-clause-gives c =
    its.packet_read c.args.image.now c.args.fields c.args.i c.args.s (store_of c.args.sets.now) c.requires.0 c.enter.ensures c.in_ok-enter.was c.word-x0.ensures c.word-x1.ensures c.make_node.ensures.gives
