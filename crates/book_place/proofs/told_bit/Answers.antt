use mathlib.Core.Path.{refl}
use Rattle.book_place.proofs.Telling as telling
use Rattle.book_place.proofs.told_bit.Goals as goal
use Rattle.book_place.proofs.told_bit.Goals.{then-f-fields-via-then-f-fields, then-f-fields-via-else-f-fields+then-v-gt1}

pub returns-then-f-fields : goal.returns-then-f-fields
returns-then-f-fields c = elim c.then-f-fields.branch [
  | then-f-fields-via-then-f-fields w ↦ telling.bit_field _ _ _ _ w.if-f-fields.true
  | then-f-fields-via-else-f-fields+then-v-gt1 w ↦ telling.bit_value _ _ _ _ w.if-f-fields.false w.if-v-gt1.true
]

pub returns : goal.returns
returns c = telling.bit_makes _ _ _ _ c.if-f-fields.false c.if-v-gt1.false refl
