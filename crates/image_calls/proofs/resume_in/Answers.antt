use Rattle.image_calls.proofs.Whole as its
use Rattle.image_calls.proofs.resume_in.Goals as goal

pub returns-clause-gives : goal.returns-clause-gives
returns-clause-gives c =
    its.resumes c.place-place.result c.clear.new.place c.go_on_from-went.new.place c.finish-ran.new.place c.clear.ensures.lengths c.clear.ensures.output c.place-place.ensures c.put_back.ensures
    c.args.image.now c.args.book.now c.go_on_from-went.ensures.gives c.finish-ran.ensures.gives
