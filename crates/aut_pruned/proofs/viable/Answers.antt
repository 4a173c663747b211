use Rattle.refusal.proofs.Passed.{passed}
use Rattle.aut_pruned.proofs.Labels as one
use Rattle.aut_pruned.proofs.viable.Goals as goal

pub set_at-live-requires : goal.set_at-live-requires
set_at-live-requires c = one.viable_set c.requires

pub ifwd-requires : goal.ifwd-requires
ifwd-requires c = one.viable_lift c.requires c.set_at-live.ensures

pub returns-in_err-allowed-clause-gives : goal.returns-in_err-allowed-clause-gives
returns-in_err-allowed-clause-gives c = rw (passed c.from_residual.ensures) (one.viable_stuck c.requires c.set_at-live.ensures c.in_err-allowed.ensures.keeps c.in_err-allowed.ensures.gives)

pub apply-requires : goal.apply-requires
apply-requires c = one.viable_relate c.requires c.set_at-live.ensures c.in_ok-allowed.ensures.keeps c.in_ok-allowed.ensures.gives

pub returns-clause-gives : goal.returns-clause-gives
returns-clause-gives c = one.viable_done c.requires c.set_at-live.ensures c.in_ok-allowed.ensures.keeps c.in_ok-allowed.ensures.gives c.apply.ensures.keeps c.apply.ensures.gives
