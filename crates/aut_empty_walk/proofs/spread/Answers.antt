use Rattle.refusal.proofs.Passed.{passed}
use Rattle.aut_empty_walk.proofs.Spreads as spreads
use Rattle.aut_empty_walk.proofs.spread.Goals as goal

pub delta-requires : goal.delta-requires
delta-requires c = spreads.delta_asks c.requires

pub returns-in_err-delta-clause-gives : goal.returns-in_err-delta-clause-gives
returns-in_err-delta-clause-gives c = spreads.spread_stuck c.requires c.in_err-delta.ensures.keeps (passed c.from_residual.ensures) c.in_err-delta.ensures.gives

pub walk-requires : goal.walk-requires
walk-requires c = spreads.walk_asks c.requires c.in_ok-delta.ensures.keeps c.in_ok-delta.ensures.gives

pub returns-clause-gives : goal.returns-clause-gives
returns-clause-gives c = spreads.spread_done c.requires c.in_ok-delta.ensures.keeps c.in_ok-delta.ensures.gives c.walk.ensures.states c.walk.result c.walk.ensures.gives
