use Rattle.refusal.proofs.Passed.{passed}
use Rattle.image_states.proofs.Turning as its
use Rattle.image_states.proofs.read_state.Goals as goal

pub returns-in_err-i-clause-gives : goal.returns-in_err-i-clause-gives
returns-in_err-i-clause-gives c =
    rw (passed c.from_residual.ensures) (its.not_read c.args.config c.args.at c.args.s c.words_at-w.result c.words_at-w.ensures c.args.aut.now c.in_err-i.ensures.gives)

pub returns-clause-gives : goal.returns-clause-gives
returns-clause-gives c =
    its.state_read c.args.config c.args.at c.args.s c.words_at-w.result c.words_at-w.ensures c.args.aut.now c.in_ok-i.ensures.gives c.want.ensures
