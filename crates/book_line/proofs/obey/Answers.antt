use Rattle.refusal.proofs.Passed.{passed}
use Rattle.book_line.proofs.Doing as doing
use Rattle.book_line.proofs.obey.Goals as goal

pub perform-requires : goal.perform-requires
perform-requires c = doing.obey_perform c.args.c c.requires c.instruction-said.ensures c.in_ok-told.ensures.keeps c.in_ok-told.ensures.tells

pub returns-in_err-told-clause-gives : goal.returns-in_err-told-clause-gives
returns-in_err-told-clause-gives c = rw (passed c.from_residual.ensures) (doing.obey_stops c.args.c c.requires c.instruction-said.ensures c.in_err-told.ensures.keeps c.in_err-told.ensures.tells)

pub returns-clause-gives : goal.returns-clause-gives
returns-clause-gives c = doing.obeyed c.args.c c.requires c.instruction-said.ensures c.in_ok-told.ensures.keeps c.in_ok-told.ensures.tells _ _ c.perform.ensures.gives
