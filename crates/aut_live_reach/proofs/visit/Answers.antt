use native.Mathlib.Omega.{arith}
use Rattle.refusal.proofs.Passed.{passed}
use Rattle.aut_live_reach.proofs.Visiting as visiting
use Rattle.aut_live_reach.proofs.visit.Goals as goal

pub epsilon-requires : goal.epsilon-requires
epsilon-requires c = visiting.visit_epsilon c.requires c.state_at-x.ensures

pub returns-in_err-e-clause-gives : goal.returns-in_err-e-clause-gives
returns-in_err-e-clause-gives c =
    let e = c.in_err-e.ensures in
    visiting.visit_stuck_1 c.requires c.state_at-x.ensures (passed c.from_residual.ensures) e.keeps e.gives e.after

pub bwd-requires : goal.bwd-requires
bwd-requires c =
    let e = c.in_ok-e.ensures in
    visiting.visit_image c.requires c.state_at-x.ensures e.keeps e.gives e.after

pub returns-in_err-ends-clause-gives : goal.returns-in_err-ends-clause-gives
returns-in_err-ends-clause-gives c =
    let e = c.in_ok-e.ensures in
    let h = c.in_err-ends.ensures in
    visiting.visit_stuck_2 c.requires c.state_at-x.ensures e.keeps e.gives e.after (passed c.from_residual-in_err-ends.ensures) h.keeps h.gives

pub put_set-requires : goal.put_set-requires
put_set-requires c =
    let e = c.in_ok-e.ensures in
    let h = c.in_ok-ends.ensures in
    (omega (arith, visiting.visit_there c.requires c.state_at-x.ensures e.keeps e.gives e.after h.keeps h.gives), visiting.visit_small c.requires c.state_at-x.ensures e.keeps e.gives e.after h.keeps h.gives)

pub delta-requires : goal.delta-requires
delta-requires c =
    let e = c.in_ok-e.ensures in
    let h = c.in_ok-ends.ensures in
    let w = c.put_set.ensures in
    visiting.visit_delta c.requires c.state_at-x.ensures e.keeps e.gives e.after h.keeps h.gives w.keeps w.pending w.gives

pub returns-in_err-delta-clause-gives : goal.returns-in_err-delta-clause-gives
returns-in_err-delta-clause-gives c =
    let e = c.in_ok-e.ensures in
    let h = c.in_ok-ends.ensures in
    let w = c.put_set.ensures in
    let d = c.in_err-delta.ensures in
    visiting.visit_stuck_3 c.requires c.state_at-x.ensures e.keeps e.gives e.after h.keeps h.gives w.keeps w.pending w.gives (passed c.from_residual-in_err-delta.ensures) d.keeps d.gives

pub enqueue-requires : goal.enqueue-requires
enqueue-requires c =
    let e = c.in_ok-e.ensures in
    let h = c.in_ok-ends.ensures in
    let w = c.put_set.ensures in
    let d = c.in_ok-delta.ensures in
    visiting.visit_enqueue c.requires c.state_at-x.ensures e.keeps e.gives e.after h.keeps h.gives w.keeps w.pending w.gives d.keeps d.gives

pub returns-clause-gives : goal.returns-clause-gives
returns-clause-gives c =
    let e = c.in_ok-e.ensures in
    let h = c.in_ok-ends.ensures in
    let w = c.put_set.ensures in
    let d = c.in_ok-delta.ensures in
    visiting.visit_done c.requires c.state_at-x.ensures e.keeps e.gives e.after h.keeps h.gives w.keeps w.pending w.gives d.keeps d.gives c.enqueue.ensures.keeps c.enqueue.result c.enqueue.ensures.gives c.ok_or.ensures.value
