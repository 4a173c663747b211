use Rattle.refusal.proofs.Passed.{passed}
use Rattle.image_read.proofs.Opening as opening
use Rattle.image_read.proofs.open.Goals as goal
use Rattle.image_read.proofs.open.Goals.{then-n-eq0-via-then-n-eq0, then-n-eq0-via-else-n-eq0+then-n-ne0}

pub returns-then-n-eq0 : goal.returns-then-n-eq0
returns-then-n-eq0 c = elim c.then-n-eq0.branch [
  | then-n-eq0-via-then-n-eq0 w ↦ opening.open_empty _ w.if-n-eq0.true
  | then-n-eq0-via-else-n-eq0+then-n-ne0 w ↦ opening.open_uneven _ w.if-n-eq0.false w.if-n-ne0.true
]

pub returns-in_err-verify : goal.returns-in_err-verify
returns-in_err-verify c =
    rw (passed c.from_residual.ensures) (opening.open_damaged _ c.if-n-eq0.false c.if-n-ne0.false c.verify.ensures c.in_err-verify.was)

pub returns-then-not-head_fits : goal.returns-then-not-head_fits
returns-then-not-head_fits c =
    opening.open_unfit _ c.if-n-eq0.false c.if-n-ne0.false c.verify.ensures c.in_ok-verify.was c.head_at-h.ensures c.head_fits.ensures c.if-not-head_fits.true

pub returns : goal.returns
returns c =
    opening.open_given _ c.if-n-eq0.false c.if-n-ne0.false c.verify.ensures c.in_ok-verify.was c.head_at-h.ensures c.head_fits.ensures c.if-not-head_fits.false
