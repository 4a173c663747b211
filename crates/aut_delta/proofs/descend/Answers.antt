use Rattle.refusal.proofs.Passed.{passed}
use Rattle.aut_delta.proofs.Ways as ways
use Rattle.aut_delta.proofs.descend.Goals as goal

pub loop-z-init : goal.loop-z-init
loop-z-init c = ways.begun c.requires

pub open_operand-requires : goal.open_operand-requires
open_operand-requires c = ways.open_ready c.requires c.loop-z.invariant

pub returns-clause-gives : goal.returns-clause-gives
returns-clause-gives c = ways.arrived c.requires c.loop-z.invariant c.in_default.ensures

pub returns-in_err-enter_new-clause-gives : goal.returns-in_err-enter_new-clause-gives
returns-in_err-enter_new-clause-gives c =
    ways.full c.requires c.loop-z.invariant c.in-Some.ensures (passed c.from_residual.ensures) c.in_err-enter_new.ensures.gives

pub loop-z-smaller : goal.loop-z-smaller
loop-z-smaller c = ways.falls c.requires c.loop-z.invariant c.in-Some.ensures

pub loop-z-preserved : goal.loop-z-preserved
loop-z-preserved c =
    let e = c.in_ok-enter_new.ensures in
    ways.further c.requires c.loop-z.invariant c.in-Some.ensures e.gives e.keeps e.members e.states
