use native.Mathlib.Omega.{arith}
use Rattle.image_save.proofs.Bytes as bytes
use Rattle.image_save.proofs.write_words.Goals as goal

pub loop-j-init : goal.loop-j-init
loop-j-init c = bytes.words_begin _ _ _

pub overflow_add-at-in-loop-j : goal.overflow_add-at-in-loop-j
overflow_add-at-in-loop-j c = omega (arith, c.requires.few, c.loop-j-test.true)

pub put_word-requires : goal.put_word-requires
put_word-requires c = omega (arith, c.requires.room, c.loop-j.invariant.len, c.loop-j-test.true)

pub loop-j-preserved : goal.loop-j-preserved
loop-j-preserved c =
    bytes.words_again _ _ _ _ c.loop-j.j _ _ c.loop-j.invariant c.loop-j-test.true c.word_of-w.ensures c.put_word.ensures

pub shape_of-image : goal.shape_of-image
shape_of-image c = c.loop-j.invariant.len

pub returns : goal.returns
returns c = bytes.words_end _ _ _ c.loop-j.image c.loop-j.j c.loop-j.invariant (omega (arith, c.loop-j.auto.j-end, c.loop-j-test.false))
