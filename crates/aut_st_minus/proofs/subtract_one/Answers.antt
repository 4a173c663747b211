use Rattle.aut_sequence.proofs.Tables.{lent_made}
use Rattle.aut_st_minus.proofs.Single as one
use Rattle.aut_st_minus.proofs.subtract_one.Goals as goal

pub returns-in_err-target-clause-gives : goal.returns-in_err-target-clause-gives
returns-in_err-target-clause-gives c = one.stuck_1 c.requires c.from_residual.ensures c.in_err-target.ensures.keeps (lent_made c.in_err-target.ensures.members c.in_err-target.ensures.gives)

pub apply-requires : goal.apply-requires
apply-requires c = one.meet_asked c.requires c.in_ok-target.ensures.keeps (lent_made c.in_ok-target.ensures.members c.in_ok-target.ensures.gives)

pub returns-in_err-label-clause-gives : goal.returns-in_err-label-clause-gives
returns-in_err-label-clause-gives c =
    one.stuck_2 c.requires c.in_ok-target.ensures.keeps (lent_made c.in_ok-target.ensures.members c.in_ok-target.ensures.gives) c.from_residual-in_err-label.ensures c.in_err-label.ensures.keeps c.in_err-label.ensures.gives

pub apply-requires-2 : goal.apply-requires-2
apply-requires-2 c =
    one.sum_asked c.requires c.in_ok-target.ensures.keeps (lent_made c.in_ok-target.ensures.members c.in_ok-target.ensures.gives) c.in_ok-label.ensures.keeps c.in_ok-label.ensures.gives

pub returns-in_err-sum-clause-gives : goal.returns-in_err-sum-clause-gives
returns-in_err-sum-clause-gives c =
    one.stuck_3 c.requires c.in_ok-target.ensures.keeps (lent_made c.in_ok-target.ensures.members c.in_ok-target.ensures.gives) c.in_ok-label.ensures.keeps c.in_ok-label.ensures.gives c.from_residual-in_err-sum.ensures c.in_err-sum.ensures.keeps c.in_err-sum.ensures.gives

pub st_insert-requires : goal.st_insert-requires
st_insert-requires c =
    one.insert_asked c.requires c.in_ok-target.ensures.keeps (lent_made c.in_ok-target.ensures.members c.in_ok-target.ensures.gives) c.in_ok-label.ensures.keeps c.in_ok-label.ensures.gives c.in_ok-sum.ensures.keeps c.in_ok-sum.ensures.gives

pub returns-in_err-count-clause-gives : goal.returns-in_err-count-clause-gives
returns-in_err-count-clause-gives c =
    one.stuck_4 c.requires c.in_ok-target.ensures.keeps (lent_made c.in_ok-target.ensures.members c.in_ok-target.ensures.gives) c.in_ok-label.ensures.keeps c.in_ok-label.ensures.gives c.in_ok-sum.ensures.keeps c.in_ok-sum.ensures.gives c.from_residual-in_err-count.ensures c.in_err-count.ensures.gives

pub returns-clause-gives : goal.returns-clause-gives
returns-clause-gives c =
    one.met c.requires c.in_ok-target.ensures.keeps (lent_made c.in_ok-target.ensures.members c.in_ok-target.ensures.gives) c.in_ok-label.ensures.keeps c.in_ok-label.ensures.gives c.in_ok-sum.ensures.keeps c.in_ok-sum.ensures.gives c.in_ok-count.ensures.keeps c.in_ok-count.ensures.gives
