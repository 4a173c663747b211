use Rattle.std.specs.Prelude.{option_copied}
use Rattle.image_calls.proofs.Whole as its
use Rattle.image_calls.proofs.save_in.Goals as goal

pub returns-clause-gives : goal.returns-clause-gives
returns-clause-gives c =
    its.saves c.place-place.result c.clear.new.place c.run_from-went.new.place c.seal-sealed.new.place c.clear.ensures.lengths c.clear.ensures.output c.place-place.ensures c.put_back.ensures
    (option_copied c.args.from) c.args.book.now c.run_from-went.ensures.gives c.seal-sealed.ensures.gives
