use Rattle.refusal.proofs.Passed.{passed}
use Rattle.aut_pruned.proofs.Join as join
use Rattle.aut_pruned.proofs.delta_pruned.Goals as goal

pub returns-in_err-live_packets-clause-gives : goal.returns-in_err-live_packets-clause-gives
returns-in_err-live_packets-clause-gives c = rw (passed c.from_residual.ensures) (join.stuck_1 c.requires c.in_err-live_packets.ensures.gives)

pub delta-requires : goal.delta-requires
delta-requires c = join.delta_asks c.requires c.in_ok-live_packets.ensures.keeps.spp c.in_ok-live_packets.ensures.gives

pub returns-in_err-delta-clause-gives : goal.returns-in_err-delta-clause-gives
returns-in_err-delta-clause-gives c =
    rw (passed c.from_residual-in_err-delta.ensures)
    (join.stuck_2 c.requires c.in_ok-live_packets.ensures.keeps.spp c.in_ok-live_packets.ensures.gives c.in_err-delta.ensures.keeps c.in_err-delta.ensures.gives)

pub prune-requires : goal.prune-requires
prune-requires c =
    join.prune_asks c.requires c.in_ok-live_packets.ensures.keeps.spp c.in_ok-live_packets.ensures.gives c.in_ok-delta.ensures.keeps c.in_ok-delta.ensures.gives

pub returns-clause-gives : goal.returns-clause-gives
returns-clause-gives c =
    join.pruned_done c.requires c.in_ok-live_packets.ensures.keeps.spp c.in_ok-live_packets.ensures.gives c.in_ok-delta.ensures.keeps c.in_ok-delta.ensures.gives c.prune.ensures.gives
