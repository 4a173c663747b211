use Rattle.book_run.proofs.Whole as whole
use Rattle.book_run.proofs.run_in.Goals as goal

pub open-went-requires : goal.open-went-requires
open-went-requires c = whole.open_ready c.args.memory.now c.place-place.result c.requires c.place-place.ensures c.clear.ensures.lengths c.clear.ensures.table c.clear.ensures.empty

pub returns-clause-gives : goal.returns-clause-gives
returns-clause-gives c =
    whole.runs c.args.book.now c.place-place.result c.clear.new.place c.open-went.new.place c.finish-ran.new.place c.clear.ensures.lengths c.clear.ensures.output c.open-went.ensures.gives c.finish-ran.ensures.gives c.place-place.ensures c.put_back.ensures
