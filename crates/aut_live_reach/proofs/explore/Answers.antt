use native.Mathlib.Omega.{arith}
use Rattle.refusal.proofs.Passed.{passed}
use Rattle.aut_live_reach.proofs.Visiting as visiting
use Rattle.aut_live_reach.proofs.explore.Goals as goal

pub loop-head-init : goal.loop-head-init
loop-head-init c = visiting.explore_begin c.requires

pub visit-requires : goal.visit-requires
visit-requires c = visiting.explore_asks c.requires c.loop-head.invariant c.loop-head-test.true

pub returns-in_err-n-clause-gives : goal.returns-in_err-n-clause-gives
returns-in_err-n-clause-gives c =
    visiting.explore_stuck c.requires c.loop-head.invariant c.loop-head-test.true (passed c.from_residual.ensures) c.in_err-n.ensures.gives

pub overflow_add-head : goal.overflow_add-head
overflow_add-head c = omega (arith, c.loop-head.invariant.held.room, c.loop-head-test.true)

pub loop-head-smaller : goal.loop-head-smaller
loop-head-smaller c = omega (arith, c.loop-head.invariant.held.room, c.loop-head.invariant.keeps.pending.length, c.loop-head-test.true)

pub loop-head-preserved : goal.loop-head-preserved
loop-head-preserved c =
    visiting.explore_again c.requires c.loop-head.invariant c.loop-head-test.true c.in_ok-n.ensures.keeps c.in_ok-n.ensures.gives

pub returns-clause-gives : goal.returns-clause-gives
returns-clause-gives c = visiting.explore_over c.requires c.loop-head.invariant c.loop-head-test.false
