use Rattle.image_nodes.proofs.Depth as its
use Rattle.image_nodes.proofs.depth_of.Goals as goal

pub returns-then-x-lt2 : goal.returns-then-x-lt2
returns-then-x-lt2 c = its.depth_leaf (its.of_sets c.args.sp.now) c.loop-d.invariant.depth c.loop-d-test.true c.if-x-lt2.true

pub loop-d-preserved : goal.loop-d-preserved
loop-d-preserved c =
    record {
      depth = its.depth_again (its.of_sets c.args.sp.now) c.loop-d.invariant.depth c.loop-d-test.true c.if-x-lt2.false;
      inside = its.inside_sets c.loop-d.invariant.inside c.if-x-lt2.false;
      within = λ count r l. its.within_sets c.args.sp.now r c.if-x-lt2.false (c.loop-d.invariant.within count r l);
    }

pub returns : goal.returns
returns c = its.depth_end (its.of_sets c.args.sp.now) c.loop-d.invariant.depth c.loop-d-test.false c.loop-d.auto.d-end
