use Rattle.aut_states.proofs.Slices.{part}
use Rattle.aut_intersect.proofs.count_all.Goals as goal

pub count_all-requires : goal.count_all-requires
count_all-requires c = rw (← part c.args.aut.now.scratch.now 64 c.args.k c.requires.1) c.requires.0

pub returns : goal.returns
returns c = rw (part c.args.aut.now.scratch.now 64 c.args.k c.requires.1) c.count_all.ensures
