use Rattle.aut_delta_lists.proofs.Alone as alone
use Rattle.aut_delta_lists.proofs.dup_list.Goals as goal

pub returns-in_err-target-clause-gives : goal.returns-in_err-target-clause-gives
returns-in_err-target-clause-gives c = alone.any_stuck c.requires (alone.dup c.one-label.ensures) _ c.from_residual.ensures c.in_err-target.ensures.gives

pub st_singleton-requires : goal.st_singleton-requires
st_singleton-requires c = alone.any_ready c.requires (alone.dup c.one-label.ensures) c.in_ok-target.ensures.same_table c.in_ok-target.ensures.gives

pub returns-clause-gives : goal.returns-clause-gives
returns-clause-gives c = alone.any_done c.requires (alone.dup c.one-label.ensures) c.in_ok-target.ensures.same_table c.in_ok-target.ensures.gives c.st_singleton.ensures.gives
