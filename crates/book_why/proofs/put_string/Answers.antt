use mathlib.Core.Path.{refl}
use Rattle.std.proofs.Common.{rules}
use Rattle.book_why.proofs.Writing as writing
use Rattle.book_why.proofs.put_string.Goals as goal

pub put_first-spot-requires : goal.put_first-spot-requires
put_first-spot-requires c = writing.string_first c.requires

pub loop-j-init : goal.loop-j-init
loop-j-init c = record { keeps = search rules; pending = refl; bytes = search rules; hopping = writing.hopping_begin }

pub put_next-spot-requires : goal.put_next-spot-requires
put_next-spot-requires c =
    writing.string_next c.put_first-spot.ensures.gives c.loop-j.invariant.hopping c.loop-j-test.true c.requires

pub loop-j-preserved : goal.loop-j-preserved
loop-j-preserved c =
    let I = c.loop-j.invariant in
    record {
      keeps = search rules;
      pending = search rules;
      bytes = search rules;
      hopping = writing.hopping_next I.hopping c.loop-j-test.true refl c.put_next-spot.ensures.gives;
    }

pub put_last-requires : goal.put_last-requires
put_last-requires c = writing.string_last c.put_first-spot.ensures.gives c.loop-j.invariant.hopping c.loop-j-test.false c.requires

pub returns-clause-gives : goal.returns-clause-gives
returns-clause-gives c =
    writing.string_done c.put_first-spot.ensures.gives c.loop-j.invariant.hopping c.loop-j-test.false c.put_last.ensures.keeps c.put_last.ensures.gives
