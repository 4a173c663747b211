use native.Mathlib.Omega.{arith}
use Rattle.refusal.proofs.Passed.{passed}
use Rattle.image_read.proofs.Lines as lines
use Rattle.image_read.proofs.read_members.Goals as goal

pub loop-i-init : goal.loop-i-init
loop-i-init c = lines.members_begin _ _ _

pub returns-in_err-enter : goal.returns-in_err-enter
returns-in_err-enter c =
    rw (passed c.from_residual.ensures) (lines.members_stop _ _ _ c.loop-i.i c.loop-i.invariant c.loop-i-test.true c.enter.ensures c.in_err-enter.was)

pub loop-i-preserved : goal.loop-i-preserved
loop-i-preserved c =
    lines.members_again _ _ _ c.loop-i.i c.loop-i.invariant c.loop-i-test.true c.enter.ensures c.in_ok-enter.was

pub returns : goal.returns
returns c = lines.members_end _ _ _ c.loop-i.i c.loop-i.invariant (omega (arith, c.loop-i-test.false))
