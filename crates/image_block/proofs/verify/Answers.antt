use Rattle.image_block.proofs.Sum as its
use Rattle.image_block.proofs.verify.Goals as goal

pub returns-then-number-b : goal.returns-then-number-b
returns-then-number-b c = its.wrong_number c.args.image.now c.args.b c.half_at-number.ensures c.if-number-b.true

pub returns-then-stored-sum : goal.returns-then-stored-sum
returns-then-stored-sum c =
    its.wrong_check c.args.image.now c.args.b c.half_at-number.ensures c.if-number-b.false c.half_at-stored.ensures (its.front_summed c.args.image.now c.args.b c.check-sum.ensures) c.if-stored-sum.true

pub returns : goal.returns
returns c =
    its.whole c.args.image.now c.args.b c.half_at-number.ensures c.if-number-b.false c.half_at-stored.ensures (its.front_summed c.args.image.now c.args.b c.check-sum.ensures) c.if-stored-sum.false
