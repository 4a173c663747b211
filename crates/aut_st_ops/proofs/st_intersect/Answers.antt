use Rattle.aut_st_ops.proofs.Loops.{pairs_asked}
use Rattle.aut_st_ops.proofs.st_intersect.Goals as goal

pub insert_pairs-requires : goal.insert_pairs-requires
insert_pairs-requires c = pairs_asked c.requires
