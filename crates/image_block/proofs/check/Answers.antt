use mathlib.Core.Logic.{inl, inr}
use Rattle.image_block.proofs.Sum as its
use Rattle.image_block.proofs.check.Goals as goal
use Rattle.image_block.proofs.check.Goals.{then-added-ge-MODULUS, else-added-ge-MODULUS, then-once-ge-MODULUS, else-once-ge-MODULUS}

pub loop-i-init : goal.loop-i-init
loop-i-init c = its.sum_begin c.args.front.now

pub loop-i-preserved : goal.loop-i-preserved
loop-i-preserved c =
    its.sum_again c.args.front.now c.requires c.loop-i.sum c.loop-i.i c.if-added-ge-MODULUS.once c.if-once-ge-MODULUS.sum c.loop-i.invariant
    (c.type_inv.front c.loop-i.i).fits c.loop-i-test.true
    (elim c.if-added-ge-MODULUS.branch [ then-added-ge-MODULUS w ↦ inl (w.if-added-ge-MODULUS.true, w.once-is) | else-added-ge-MODULUS w ↦ inr (w.if-added-ge-MODULUS.false, w.once-is) ])
    (elim c.if-once-ge-MODULUS.branch [ then-once-ge-MODULUS w ↦ inl (w.if-once-ge-MODULUS.true, w.sum-is) | else-once-ge-MODULUS w ↦ inr (w.if-once-ge-MODULUS.false, w.sum-is) ])

pub returns : goal.returns
returns c = its.sum_end c.args.front.now c.loop-i.sum c.loop-i.i c.loop-i.invariant c.loop-i-test.false
