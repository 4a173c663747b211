use Rattle.refusal.proofs.Passed.{passed}
use Rattle.aut_st_insert.proofs.Halves as halves
use Rattle.aut_st_insert.proofs.meet_in.Goals as goal

pub returns-in_err-label-clause-gives : goal.returns-in_err-label-clause-gives
returns-in_err-label-clause-gives c = rw (passed c.from_residual.ensures) (halves.no_meet c.requires c.in_err-label.ensures.keeps c.in_err-label.ensures.gives)

pub mk_union-requires : goal.mk_union-requires
mk_union-requires c = halves.union_asked c.requires c.in_ok-label.ensures.keeps c.in_ok-label.ensures.gives

pub returns-in_err-target-clause-gives : goal.returns-in_err-target-clause-gives
returns-in_err-target-clause-gives c =
    rw (passed c.from_residual-in_err-target.ensures) (halves.no_union c.requires c.in_ok-label.ensures.keeps c.in_ok-label.ensures.gives c.in_err-target.ensures.keeps c.in_err-target.ensures.gives)

pub st_insert_helper-requires : goal.st_insert_helper-requires
st_insert_helper-requires c = (halves.meet_half c.requires c.in_ok-label.ensures.keeps c.in_ok-label.ensures.gives c.in_ok-target.ensures.keeps c.in_ok-target.ensures.gives).asked

pub returns-in_err-count-clause-gives : goal.returns-in_err-count-clause-gives
returns-in_err-count-clause-gives c =
    rw (passed c.from_residual-in_err-count.ensures) (halves.half_stuck (halves.meet_half c.requires c.in_ok-label.ensures.keeps c.in_ok-label.ensures.gives c.in_ok-target.ensures.keeps c.in_ok-target.ensures.gives) c.in_err-count.ensures.gives)

pub returns-clause-gives : goal.returns-clause-gives
returns-clause-gives c = halves.half_done (halves.meet_half c.requires c.in_ok-label.ensures.keeps c.in_ok-label.ensures.gives c.in_ok-target.ensures.keeps c.in_ok-target.ensures.gives) c.in_ok-count.ensures.gives
