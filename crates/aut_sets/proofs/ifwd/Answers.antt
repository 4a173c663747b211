use Rattle.aut_sets.proofs.Back as back
use Rattle.aut_sets.proofs.ifwd.Goals as goal

pub returns-clause-gives : goal.returns-clause-gives
returns-clause-gives c = back.lift_back c.view-sets.result (c.view-sets.ensures.nodes, c.view-sets.ensures.count) c.requires.0 c.requires.1.room c.in_ok-ifwd.ensures.answer
