use mathlib.Core.Path.{refl}
use Rattle.std.proofs.Common.{rules}
use Rattle.aut_why_marks.proofs.Loops as loops
use Rattle.aut_why_marks.proofs.fill.Goals as goal

pub loop-i-init : goal.loop-i-init
loop-i-init c = record { keeps = search rules; pending = refl; words = loops.fill_begin c.args.w (λ x. c.args.v) }

pub loop-i-preserved : goal.loop-i-preserved
loop-i-preserved c = record {
  keeps = search rules;
  pending = search rules;
  words = rw (c.state_at-x.ensures, c.loop-i.invariant.pending)
      (loops.fill_again c.args.w (λ x. c.args.v) c.loop-i.invariant.words c.loop-i-test.true c.requires.word (c.requires.states.states c.loop-i.i c.loop-i-test.true) refl);
}

pub returns-clause-gives : goal.returns-clause-gives
returns-clause-gives c = loops.fill_end c.args.w (λ x. c.args.v) c.loop-i.invariant.words c.loop-i.auto.i-end c.loop-i-test.false
