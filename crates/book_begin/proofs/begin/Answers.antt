use Rattle.refusal.proofs.Passed.{passed}
use Rattle.book_begin.proofs.Beginning as beginning
use Rattle.book_begin.proofs.begin.Goals as goal

pub returns-in_err-constants-clause-gives : goal.returns-in_err-constants-clause-gives
returns-in_err-constants-clause-gives c =
    rw (passed c.from_residual.ensures) (beginning.begin_not c.args.h c.args.place.now c.requires c.in_err-constants.ensures.keeps c.in_err-constants.ensures.gives)

pub returns-clause-gives : goal.returns-clause-gives
returns-clause-gives c =
    beginning.begin_said c.args.h c.args.place.now c.requires c.in_ok-constants.ensures.keeps c.in_ok-constants.ensures.gives c.fields_answer.new.self c.fields_answer.result c.fields_answer.ensures.answers

pub returns-in_err-constants-clause-only : goal.returns-in_err-constants-clause-only
returns-in_err-constants-clause-only c = beginning.only_nodes c.in_err-constants.ensures.keeps

pub returns-clause-only : goal.returns-clause-only
returns-clause-only c = beginning.only_line c.in_ok-constants.ensures.keeps c.fields_answer.new.self c.fields_answer.ensures.keeps
