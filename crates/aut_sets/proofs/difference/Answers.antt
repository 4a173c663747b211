use Rattle.aut_sets.proofs.Back as back
use Rattle.aut_sets.proofs.difference.Goals as goal

pub difference-requires : goal.difference-requires
difference-requires c = back.sets_asked c.requires

pub returns-clause-gives : goal.returns-clause-gives
returns-clause-gives c = back.sets_back c.requires.first.room c.in_ok-difference.ensures.answer
