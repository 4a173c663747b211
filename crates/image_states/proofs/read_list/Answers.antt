use Rattle.image_states.proofs.Turning as its
use Rattle.image_states.proofs.read_list.Goals as goal
use Rattle.image_states.proofs.read_list.Goals.{then-x-k-via-then-x-k, then-x-k-via-else-x-k+then-k-config}

pub returns-then-x-k-clause-gives : goal.returns-then-x-k-clause-gives
returns-then-x-k-clause-gives c = elim c.then-x-k.branch [
  | then-x-k-via-then-x-k w ↦ its.list_far c.args.config c.args.at c.args.w _ c.requires.1 w.if-x-k.true
  | then-x-k-via-else-x-k+then-k-config w ↦ its.list_long c.args.config c.args.at c.args.w _ c.requires.1 w.if-x-k.false w.if-k-config.true
]
