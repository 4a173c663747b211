use mathlib.Core.Path.{◌∙◌}
use Rattle.image_block.proofs.Sum as its
use Rattle.image_block.proofs.put_word.Goals as goal

pub returns : goal.returns
returns c =
    its.word_stored c.args.image.now c.args.i c.args.w c.ranges.w.fits c.requires (c.copy_from_slice.ensures.after ∙ c.to_be_bytes.ensures)
