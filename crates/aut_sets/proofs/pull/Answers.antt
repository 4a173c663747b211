use Rattle.spp_steps.specs.ImageModel as Images
use Rattle.aut_sets.proofs.Back as back
use Rattle.aut_sets.proofs.pull.Goals as goal

pub returns-clause-gives : goal.returns-clause-gives
returns-clause-gives c = back.image_back c.relations_of-relations.result c.relations_of-relations.ensures c.requires.image.room (λ (N : _). Images.pull N c.args.config.fields c.args.r.0 c.args.s.0) c.in_ok-pull.ensures.answer
