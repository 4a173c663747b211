use native.Mathlib.Omega.{arith}
use Rattle.refusal.proofs.Passed.{passed}
use Rattle.image_read.proofs.Lines as lines
use Rattle.image_read.proofs.line_at.Goals as goal

pub returns-in_err-enter : goal.returns-in_err-enter
returns-in_err-enter c = rw (passed c.from_residual.ensures) (lines.line_blocked _ _ _ c.enter.ensures c.in_err-enter.was)

pub returns-then-w-states : goal.returns-then-w-states
returns-then-w-states c =
    lines.line_past _ _ _ c.enter.ensures c.in_ok-enter.was c.word-w.ensures (omega (arith, c.if-w-states.true))

pub returns : goal.returns
returns c =
    lines.line_read _ _ _ c.enter.ensures c.in_ok-enter.was c.word-w.ensures (omega (arith, c.if-w-states.false)) (omega arith) c.checked_sub.ensures
