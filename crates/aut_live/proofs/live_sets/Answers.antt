use mathlib.Core.Path.{◌∙◌}
use Rattle.refusal.proofs.Passed.{passed}
use Rattle.aut_live_pull.proofs.SettlingLoops.{settled_itself}
use Rattle.aut_live.proofs.Living as living
use Rattle.aut_live.proofs.live_sets.Goals as goal

pub returns-in_err-ok_or-clause-gives : goal.returns-in_err-ok_or-clause-gives
returns-in_err-ok_or-clause-gives c = let o = c.in_err-ok_or.ensures in living.sets_full c.requires (passed c.from_residual.ensures ∙ (rw o.ok_part at o.value)) (rw o.ok_part at c.reach.ensures.gives)

pub explore-requires : goal.explore-requires
explore-requires c = living.sets_explore c.requires c.reach.ensures.keeps (rw c.in_ok-ok_or.ensures.ok_part at c.reach.ensures.gives)

pub returns-in_err-n-clause-gives : goal.returns-in_err-n-clause-gives
returns-in_err-n-clause-gives c = living.sets_stuck c.requires c.reach.ensures.keeps (rw c.in_ok-ok_or.ensures.ok_part at c.reach.ensures.gives) c.from_residual-in_err-n.ensures c.in_err-n.ensures.gives

pub settle-requires : goal.settle-requires
settle-requires c = record {
  members = _;
  ready = living.sets_settle c.requires c.reach.ensures.keeps (rw c.in_ok-ok_or.ensures.ok_part at c.reach.ensures.gives) c.in_ok-n.ensures.keeps c.in_ok-n.ensures.gives;
}

pub returns-in_err-settle-clause-gives : goal.returns-in_err-settle-clause-gives
returns-in_err-settle-clause-gives c =
    let A = rw c.in_ok-ok_or.ensures.ok_part at c.reach.ensures.gives in
    let n = c.in_ok-n.ensures in
    let s = c.in_err-settle.ensures in
    living.sets_unsettled c.requires c.reach.ensures.keeps A n.keeps n.gives c.from_residual-in_err-settle.ensures (settled_itself s.keeps (living.sets_settle c.requires c.reach.ensures.keeps A n.keeps n.gives) s.gives)

pub returns-clause-gives : goal.returns-clause-gives
returns-clause-gives c =
    let A = rw c.in_ok-ok_or.ensures.ok_part at c.reach.ensures.gives in
    let n = c.in_ok-n.ensures in
    let s = c.in_ok-settle.ensures in
    living.sets_done c.requires c.reach.ensures.keeps A n.keeps n.gives (settled_itself s.keeps (living.sets_settle c.requires c.reach.ensures.keeps A n.keeps n.gives) s.gives)
