use Rattle.aut_live.proofs.Living as living
use Rattle.aut_live.proofs.live_packets.Goals as goal

pub returns-in-Some-clause-gives : goal.returns-in-Some-clause-gives
returns-in-Some-clause-gives c = living.live_stored c.requires c.in-Some.ensures

pub returns-in_err-n-clause-gives : goal.returns-in_err-n-clause-gives
returns-in_err-n-clause-gives c = living.live_refused c.requires c.in_default.ensures c.from_residual.ensures c.in_err-n.ensures.gives

pub set_at-live-requires : goal.set_at-live-requires
set_at-live-requires c = living.live_set c.requires c.in_default.ensures c.in_ok-n.ensures.gives

pub keep-requires : goal.keep-requires
keep-requires c = living.live_keeps c.requires c.in_default.ensures c.in_ok-n.ensures.gives

pub clear-requires : goal.clear-requires
clear-requires c = living.live_clears c.requires c.in_default.ensures c.in_ok-n.ensures.gives c.keep.ensures.keeps c.keep.ensures.pending c.keep.ensures.gives

pub returns-clause-pending : goal.returns-clause-pending
returns-clause-pending c =
    living.live_zeroed c.requires c.in_default.ensures c.in_ok-n.ensures.gives c.keep.ensures.keeps c.keep.ensures.pending c.keep.ensures.gives c.clear.ensures.keeps c.clear.ensures.gives

pub returns-clause-gives : goal.returns-clause-gives
returns-clause-gives c =
    living.live_done c.requires c.in_default.ensures c.in_ok-n.ensures.gives c.keep.ensures.keeps c.keep.ensures.pending c.keep.ensures.gives c.clear.ensures.keeps c.clear.ensures.gives c.in_ok-n.ensures.keeps c.set_at-live.ensures
