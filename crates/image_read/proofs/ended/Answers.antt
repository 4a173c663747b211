use native.Mathlib.Omega.{arith}
use Rattle.image_read.proofs.Ending as ending
use Rattle.image_read.proofs.ended.Goals as goal

pub returns-then-n-eq0 : goal.returns-then-n-eq0
returns-then-n-eq0 c = ending.ended_empty _ _ c.args.opened.fitting _ (omega (arith, c.if-members-h.false)) c.total-n.ensures c.if-n-eq0.true

pub overflow_mul-b-2 : goal.overflow_mul-b-2
overflow_mul-b-2 c = omega (arith, c.total-n.ensures, c.reach-b.ensures, ending.total_small _ _ c.args.opened.fitting)

pub unused-requires : goal.unused-requires
unused-requires c =
    (omega (arith, c.reach-b.ensures, c.if-n-eq0.false), omega (arith, c.reach-b.ensures, c.total-n.ensures, ending.reaching _ _ c.args.opened.fitting c.total-n.result (omega (arith, c.total-n.ensures))))

pub returns : goal.returns
returns c = ending.ended_words _ _ c.args.opened.fitting _ (omega (arith, c.if-members-h.false)) c.total-n.ensures c.reach-b.ensures c.unused.ensures
