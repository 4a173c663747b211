use Rattle.refusal.proofs.Passed.{passed}
use Rattle.aut_st_insert.proofs.Halves as halves
use Rattle.aut_st_insert.proofs.split_one.Goals as goal

pub returns-in_err-one-clause-gives : goal.returns-in_err-one-clause-gives
returns-in_err-one-clause-gives c = rw (passed c.from_residual.ensures) (halves.not_split c.requires c.in_err-one.ensures.gives)

pub rest_in-requires : goal.rest_in-requires
rest_in-requires c = halves.rest_asked c.requires c.in_ok-one.ensures.keeps c.in_ok-one.ensures.gives

pub returns-clause-gives : goal.returns-clause-gives
returns-clause-gives c = halves.splits c.requires c.in_ok-one.ensures.keeps c.in_ok-one.ensures.gives c.rest_in.ensures.gives
