use Rattle.image_save.proofs.Body as body
use Rattle.image_save.proofs.word_of.Goals as goal

pub returns-then-b-eq0 : goal.returns-then-b-eq0
returns-then-b-eq0 c =
    body.head_word_is c.args.h c.args.place.now c.args.b c.args.j c.head_word.result c.if-b-eq0.true c.head_word.ensures

pub returns : goal.returns
returns c =
    body.record_word_is c.args.h c.args.place.now c.args.b c.args.j c.record_word.result c.if-b-eq0.false c.record_word.ensures
