use Rattle.aut_operands.proofs.Down as below
use Rattle.aut_operands.proofs.lowest.Goals as goal

pub loop-z-smaller : goal.loop-z-smaller
loop-z-smaller c = below.falls c.loop-z.invariant c.in-Some.ensures

pub loop-z-preserved : goal.loop-z-preserved
loop-z-preserved c = below.further c.loop-z.invariant c.in-Some.ensures

pub returns : goal.returns
returns c = below.arrived c.loop-z.invariant c.in_default.ensures
