use Rattle.image_nodes.proofs.Depth as its
use Rattle.image_nodes.proofs.relation_depth.Goals as goal

pub returns-then-x-lt2 : goal.returns-then-x-lt2
returns-then-x-lt2 c = its.depth_leaf (its.of_relations c.args.nodes.now) c.loop-d.invariant.depth c.loop-d-test.true c.if-x-lt2.true

pub loop-d-preserved : goal.loop-d-preserved
loop-d-preserved c =
    record {
      depth = its.depth_again (its.of_relations c.args.nodes.now) c.loop-d.invariant.depth c.loop-d-test.true c.if-x-lt2.false;
      inside = its.inside_relations c.loop-d.invariant.inside c.if-x-lt2.false;
      within = λ count r l. its.within_relations c.args.nodes.now r c.if-x-lt2.false (c.loop-d.invariant.within count r l);
    }

pub returns : goal.returns
returns c = its.depth_end (its.of_relations c.args.nodes.now) c.loop-d.invariant.depth c.loop-d-test.false c.loop-d.auto.d-end
