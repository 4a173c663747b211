use Rattle.aut_sets.proofs.Back as back
use Rattle.aut_sets.proofs.pairs.Goals as goal

pub returns-clause-pairs : goal.returns-clause-pairs
returns-clause-pairs c = back.count_back c.relations_of-relations.result c.relations_of-relations.ensures c.requires.room c.size.ensures
