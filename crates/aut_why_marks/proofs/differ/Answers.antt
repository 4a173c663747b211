use mathlib.Core.Path.{◌∙◌}
use native.Mathlib.Omega.{arith}
use Rattle.aut_why_words.specs.Words.{moved_at}
use Rattle.aut_why_marks.proofs.Loops as loops
use Rattle.aut_why_marks.proofs.differ.Goals as goal

pub loop-i-init : goal.loop-i-init
loop-i-init c = loops.fill_begin 11 (λ x. moved_at c.args.states.now.words.now x)

pub loop-i-preserved : goal.loop-i-preserved
loop-i-preserved c =
    loops.fill_again 11 (λ x. moved_at c.args.states.now.words.now x) c.loop-i.invariant c.loop-i-test.true (omega arith) (c.requires.states c.loop-i.i c.loop-i-test.true)
    (c.from.ensures ∙ loops.moved_told c.loop-i.invariant _)

pub returns-clause-gives : goal.returns-clause-gives
returns-clause-gives c = loops.fill_end 11 (λ x. moved_at c.args.states.now.words.now x) c.loop-i.invariant c.loop-i.auto.i-end c.loop-i-test.false
