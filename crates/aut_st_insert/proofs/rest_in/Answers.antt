use Rattle.refusal.proofs.Passed.{passed}
use Rattle.aut_st_insert.proofs.Halves as halves
use Rattle.aut_st_insert.proofs.rest_in.Goals as goal

pub returns-in_err-sum-clause-gives : goal.returns-in_err-sum-clause-gives
returns-in_err-sum-clause-gives c = rw (passed c.from_residual.ensures) (halves.no_sum c.requires c.in_err-sum.ensures.keeps c.in_err-sum.ensures.gives)

pub apply-requires-2 : goal.apply-requires-2
apply-requires-2 c = halves.rest_handles c.requires c.in_ok-sum.ensures.keeps c.in_ok-sum.ensures.gives

pub returns-in_err-label-clause-gives : goal.returns-in_err-label-clause-gives
returns-in_err-label-clause-gives c =
    rw (passed c.from_residual-in_err-label.ensures) (halves.no_rest c.requires c.in_ok-sum.ensures.keeps c.in_ok-sum.ensures.gives c.in_err-label.ensures.keeps c.in_err-label.ensures.gives)

pub st_insert_helper-requires : goal.st_insert_helper-requires
st_insert_helper-requires c = (halves.rest_half c.requires c.in_ok-sum.ensures.keeps c.in_ok-sum.ensures.gives c.in_ok-label.ensures.keeps c.in_ok-label.ensures.gives).asked

pub returns-in_err-count-clause-gives : goal.returns-in_err-count-clause-gives
returns-in_err-count-clause-gives c =
    rw (passed c.from_residual-in_err-count.ensures) (halves.half_stuck (halves.rest_half c.requires c.in_ok-sum.ensures.keeps c.in_ok-sum.ensures.gives c.in_ok-label.ensures.keeps c.in_ok-label.ensures.gives) c.in_err-count.ensures.gives)

pub returns-clause-gives : goal.returns-clause-gives
returns-clause-gives c = halves.half_done (halves.rest_half c.requires c.in_ok-sum.ensures.keeps c.in_ok-sum.ensures.gives c.in_ok-label.ensures.keeps c.in_ok-label.ensures.gives) c.in_ok-count.ensures.gives
