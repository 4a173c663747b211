use Rattle.aut_sets.proofs.Back as back
use Rattle.aut_sets.proofs.union.Goals as goal

pub union-requires : goal.union-requires
union-requires c = back.sets_asked c.requires

pub returns-clause-gives : goal.returns-clause-gives
returns-clause-gives c = back.sets_back c.requires.first.room c.in_ok-union.ensures.answer
