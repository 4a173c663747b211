use Rattle.aut_sets.proofs.Back as back
use Rattle.aut_sets.proofs.has_image.Goals as goal

pub returns-clause-has : goal.returns-clause-has
returns-clause-has c = back.has_back c.relations_of-relations.result c.relations_of-relations.ensures c.requires.image.room c.view-sets.result (c.view-sets.ensures.nodes, c.view-sets.ensures.count) c.has_image.ensures
