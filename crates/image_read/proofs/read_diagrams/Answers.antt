use Rattle.refusal.proofs.Passed.{passed}
use Rattle.image_read.proofs.Nodes as nodes
use Rattle.image_read.proofs.read_diagrams.Goals as goal

pub constants-requires : goal.constants-requires
constants-requires c = nodes.constants_ready c.args.opened.image.now c.args.opened.head c.args.place.now c.args.opened.fitting c.requires

pub read_nodes-requires : goal.read_nodes-requires
read_nodes-requires c = nodes.nodes_ready c.args.opened.image.now c.args.opened.head c.args.place.now c.args.opened.fitting c.requires c.constants.new.place c.in_ok-constants.ensures.gives

pub read_relations-requires : goal.read_relations-requires
read_relations-requires c =
    nodes.relations_ready c.args.opened.image.now c.args.opened.head c.args.place.now c.args.opened.fitting c.requires c.constants.new.place c.in_ok-constants.ensures.gives c.read_nodes.new.sets c.in_ok-read_nodes.ensures.gives

pub returns-in_err-constants-clause-gives : goal.returns-in_err-constants-clause-gives
returns-in_err-constants-clause-gives c =
    rw (passed c.from_residual.ensures) (nodes.no_constants c.args.opened.image.now c.args.opened.head c.args.place.now c.args.opened.fitting c.requires c.constants.new.place c.in_err-constants.ensures.gives)

pub returns-in_err-read_nodes-clause-gives : goal.returns-in_err-read_nodes-clause-gives
returns-in_err-read_nodes-clause-gives c =
    rw (passed c.from_residual-in_err-read_nodes.ensures) (nodes.no_nodes c.args.opened.image.now c.args.opened.head c.args.place.now c.args.opened.fitting c.requires c.constants.new.place c.in_ok-constants.ensures.gives c.read_nodes.new.sets c.read_nodes.ensures.same_table c.in_err-read_nodes.ensures.gives)

pub returns-clause-gives : goal.returns-clause-gives
returns-clause-gives c =
    nodes.diagrams c.args.opened.image.now c.args.opened.head c.args.place.now c.args.opened.fitting c.requires c.constants.new.place c.in_ok-constants.ensures.gives c.read_nodes.new.sets c.in_ok-read_nodes.ensures.gives c.read_nodes.ensures.same_table c.read_relations.new.relations c.read_relations.ensures.same_store c.read_relations.ensures.gives
