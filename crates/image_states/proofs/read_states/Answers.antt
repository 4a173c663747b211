use Rattle.std.proofs.Common.{rules}
use Rattle.refusal.proofs.Passed.{passed}
use Rattle.image_states.proofs.Turning as its
use Rattle.image_states.proofs.read_states.Goals as goal

pub returns-in_err-read_at-clause-gives : goal.returns-in_err-read_at-clause-gives
returns-in_err-read_at-clause-gives c =
    rw (passed c.from_residual.ensures) (its.stop c.args.config c.args.at c.args.s c.args.k c.args.aut.now c.loop-i.invariant.going c.loop-i-test.true c.in_err-read_at.ensures.gives)

pub loop-i-preserved : goal.loop-i-preserved
loop-i-preserved c = record {
  keeps = search rules;
  going = its.again c.args.config c.args.at c.args.s c.args.k c.args.aut.now c.loop-i.invariant.going c.loop-i-test.true c.in_ok-read_at.ensures.gives;
}

pub returns-clause-gives : goal.returns-clause-gives
returns-clause-gives c = its.end c.args.config c.args.at c.args.s c.args.k c.args.aut.now c.loop-i.invariant.going c.loop-i-test.false
