use Rattle.image_words.proofs.Words as its
use Rattle.image_words.proofs.enter.Goals as goal

pub returns-then-reach-last : goal.returns-then-reach-last
returns-then-reach-last c =
    its.entered_new c.args.image.now c.args.s c.args.size c.verify.result c.reach.ensures c.reach-last.ensures c.if-reach-last.true c.verify.ensures

pub returns : goal.returns
returns c = its.entered_there c.args.image.now c.args.s c.args.size c.reach.ensures c.reach-last.ensures c.if-reach-last.false
