use Rattle.refusal.proofs.Passed.{passed}
use Rattle.aut_relations.proofs.Kept.{keeps_trans}
use Rattle.aut_delta_stage.proofs.Kept.{store_keeps}
use Rattle.aut_delta.proofs.Turns as turns
use Rattle.aut_delta.proofs.+delta.Goals as goal

pub returns-clause-gives : goal.returns-clause-gives
returns-clause-gives t c = turns.listed c.requires c.loop-config.invariant c.loop-config-test.ensures

pub returns-in_err-y-clause-gives : goal.returns-in_err-y-clause-gives
returns-in_err-y-clause-gives t c = turns.full c.requires c.loop-config.invariant (passed c.from_residual.ensures) c.in_err-y.ensures.gives

pub finish-requires : goal.finish-requires
finish-requires t c = let e = c.in_ok-y.ensures in turns.finish_ready c.requires c.loop-config.invariant e.gives c.if-y-x.true e.keeps c.loop-config-test.ensures

pub returns-then-y-x-clause-gives : goal.returns-then-y-x-clause-gives
returns-then-y-x-clause-gives t c = turns.finished c.requires c.loop-config.invariant c.in_ok-y.ensures.gives c.if-y-x.true c.finish.ensures.gives

pub delta-requires : goal.delta-requires
delta-requires t c = let e = c.in_ok-y.ensures in turns.call_ready c.requires c.loop-config.invariant e.gives c.if-y-x.false e.keeps c.decreases

pub returns-in_err-delta-clause-gives : goal.returns-in_err-delta-clause-gives
returns-in_err-delta-clause-gives t c =
    turns.stopped c.requires c.loop-config.invariant c.in_ok-y.ensures.gives c.if-y-x.false (passed c.from_residual-in_err-delta.ensures) c.in_err-delta.ensures.gives

pub loop-config-smaller : goal.loop-config-smaller
loop-config-smaller t c = turns.fewer c.requires c.loop-config.invariant c.in_ok-y.ensures.gives c.if-y-x.false c.in_ok-delta.ensures.gives

pub loop-config-preserved : goal.loop-config-preserved
loop-config-preserved t c =
    turns.again c.requires c.loop-config.invariant c.in_ok-y.ensures.gives c.if-y-x.false c.in_ok-delta.ensures.gives
    (keeps_trans (keeps_trans c.loop-config.invariant.keeps (store_keeps c.in_ok-y.ensures.keeps)) c.in_ok-delta.ensures.keeps)
