use Rattle.aut_delta_lists.proofs.Each.{each_asked}
use Rattle.aut_delta_lists.proofs.st_postcompose.Goals as goal

pub insert_each-requires : goal.insert_each-requires
insert_each-requires c = each_asked c.requires.0 c.requires.1
