use Rattle.image_states.proofs.Copying as its
use Rattle.image_states.proofs.copy_members.Goals as goal

pub loop-j-init : goal.loop-j-init
loop-j-init c = its.copy_begin c.args.image.now c.args.at c.args.list.now

pub loop-j-preserved : goal.loop-j-preserved
loop-j-preserved c =
    its.copy_again c.args.image.now c.args.at c.args.list.now c.loop-j.list c.loop-j.j c.loop-j.invariant c.loop-j-test.true c.word.result c.word.ensures

pub returns : goal.returns
returns c = its.copy_end c.args.image.now c.args.at c.args.list.now c.loop-j.list c.loop-j.j c.loop-j.invariant c.loop-j-test.false
