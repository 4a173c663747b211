use Rattle.aut_live_words.proofs.Words as words
use Rattle.aut_live_words.proofs.copy_in.Goals as goal

pub loop-i-init : goal.loop-i-init
loop-i-init c = words.copy_begin

pub loop-i-preserved : goal.loop-i-preserved
loop-i-preserved c = words.copy_again c.loop-i.invariant c.loop-i-test.true

pub returns-clause-gives : goal.returns-clause-gives
returns-clause-gives c = words.copy_end c.loop-i.invariant c.loop-i-test.false
