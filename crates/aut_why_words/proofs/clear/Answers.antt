use native.Mathlib.Omega.{arith}
use Rattle.std.proofs.Common.{rules}
use Rattle.aut_why_words.proofs.Loops as loops
use Rattle.aut_why_words.proofs.clear.Goals as goal

pub loop-i-preserved : goal.loop-i-preserved
loop-i-preserved c =
    record { keeps = search rules; words = rw c.state_at.ensures (loops.clear_again c.loop-i.invariant.words c.loop-i-test.true (omega (arith, c.requires.fits, c.loop-i.invariant.keeps.pending.length))) }

pub returns-clause-gives : goal.returns-clause-gives
returns-clause-gives c = loops.clear_end c.loop-i.invariant.words c.loop-i.auto.i-end c.loop-i-test.false
