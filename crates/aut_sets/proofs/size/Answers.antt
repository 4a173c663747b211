use Rattle.aut_sets.proofs.Back as back
use Rattle.aut_sets.proofs.size.Goals as goal

pub size-requires : goal.size-requires
size-requires c = back.size_asked c.view-sets.result (c.view-sets.ensures.nodes, c.view-sets.ensures.count) c.requires

pub returns-clause-size : goal.returns-clause-size
returns-clause-size c = back.size_back c.view-sets.result (c.view-sets.ensures.nodes, c.view-sets.ensures.count) c.requires.room c.size.ensures
