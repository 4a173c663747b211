use Rattle.image_states.proofs.Turning as its
use Rattle.image_states.proofs.read_at.Goals as goal

pub returns-clause-gives : goal.returns-clause-gives
returns-clause-gives c =
    its.turn_read c.args.config c.args.at c.args.s c.args.aut.now c.enter.ensures c.requires.asks.asks.ordered.good c.requires.head c.requires.is_head c.in_ok-enter.was c.read_state.ensures.gives
