use mathlib.Core.Path.{◌≡◌}
use Rattle.std.proofs.Common.{rules}
use native.Mathlib.Omega.{arith}
use Rattle.image_save.proofs.Whole.{count_is, saves, writes}
use Rattle.image_keep.proofs.Keeping as its
use Rattle.image_keep.proofs.keep.Goals as goal
use Rattle.image_keep.proofs.keep.Goals.{then-n-gt-BLOCKS-via-then-n-gt-BLOCKS, then-n-gt-BLOCKS-via-else-n-gt-BLOCKS+then-n-image}

pub returns-then-n-gt-BLOCKS : goal.returns-then-n-gt-BLOCKS
returns-then-n-gt-BLOCKS c =
    let e : c.stop-then-n-gt-BLOCKS.result ≡ its.no_room c.args.place.now c.args.image.now = search rules in
    rw (c.in_ok-setting.was, e) (elim c.then-n-gt-BLOCKS.branch [
      | then-n-gt-BLOCKS-via-then-n-gt-BLOCKS w ↦ its.keep_many _ _ _ c.has_next.ensures c.if-has_next.false (count_is c.in_ok-setting.setting c.args.place.now c.head_of-h.ensures c.blocks_of-n.ensures) w.if-n-gt-BLOCKS.true
      | then-n-gt-BLOCKS-via-else-n-gt-BLOCKS+then-n-image w ↦ its.keep_long _ _ _ c.has_next.ensures c.if-has_next.false (count_is c.in_ok-setting.setting c.args.place.now c.head_of-h.ensures c.blocks_of-n.ensures) (omega (arith, w.if-n-gt-BLOCKS.false)) (omega (arith, w.if-n-image.true))
    ])

pub write-requires : goal.write-requires
write-requires c = writes _ c.args.place.now c.args.image.now c.blocks_of-n.ensures (search rules) c.head_of-h.ensures.small c.if-n-gt-BLOCKS.false c.if-n-image.false

pub returns : goal.returns
returns c = rw c.in_ok-setting.was (its.keep_written _ _ _ c.has_next.ensures c.if-has_next.false (count_is c.in_ok-setting.setting c.args.place.now c.head_of-h.ensures c.blocks_of-n.ensures) c.if-n-gt-BLOCKS.false c.if-n-image.false (saves c.in_ok-setting.setting c.args.place.now c.head_of-h.ensures c.args.image.now c.write.ensures))
