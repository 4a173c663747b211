use native.Mathlib.Omega.{arith}
use Rattle.std.proofs.Common.{rules}
use Rattle.aut_live_words.proofs.Words as words
use Rattle.aut_live_words.proofs.clear.Goals as goal

pub loop-i-preserved : goal.loop-i-preserved
loop-i-preserved c =
    (search rules, rw c.state_at.ensures (words.clear_again c.loop-i.invariant.1 c.loop-i-test.true (omega (arith, c.requires.fits, c.loop-i.invariant.0.pending.length))))

pub returns-clause-gives : goal.returns-clause-gives
returns-clause-gives c = words.clear_end c.loop-i.invariant.1 c.loop-i.auto.i-end c.loop-i-test.false
