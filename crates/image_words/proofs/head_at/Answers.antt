use native.Mathlib.Omega.{arith}
use Rattle.image_words.proofs.Words as its
use Rattle.image_words.proofs.head_at.Goals as goal

pub returns : goal.returns
returns c =
    its.head_is c.args.image.now c.block_word.ensures c.block_word-high.ensures c.block_word-low.ensures c.block_word-2.ensures c.block_word-3.ensures c.block_word-4.ensures c.block_word-5.ensures c.block_word-6.ensures
    (omega arith) (omega arith) (omega arith) (omega arith) (omega arith)
