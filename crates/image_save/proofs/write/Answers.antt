use native.Mathlib.Omega.{arith}
use Rattle.image_save.proofs.Bytes as bytes
use Rattle.image_save.proofs.Whole as whole
use Rattle.image_save.proofs.write.Goals as goal

pub loop-b-init : goal.loop-b-init
loop-b-init c = bytes.blocks_begin _ _ _

pub write_block-requires : goal.write_block-requires
write_block-requires c =
    whole.block_ready c.args.h c.args.place.now _ c.blocks_of-n.ensures c.requires _ c.loop-b.b c.loop-b.invariant c.loop-b-test.true

pub loop-b-preserved : goal.loop-b-preserved
loop-b-preserved c = bytes.blocks_again _ _ _ _ c.loop-b.b _ c.loop-b.invariant c.loop-b-test.true c.write_block.ensures

pub shape_of-image : goal.shape_of-image
shape_of-image c = c.loop-b.invariant.len

pub returns : goal.returns
returns c =
    whole.image_is c.args.h c.args.place.now c.args.image.now c.blocks_of-n.ensures c.loop-b.image
    (bytes.blocks_end _ _ _ c.loop-b.image c.loop-b.b c.loop-b.invariant (omega (arith, c.loop-b.auto.b-end, c.loop-b-test.false)))
