use Rattle.aut_delta_many.proofs.Joins as joins
use Rattle.aut_delta_many.proofs.union_all.Goals as goal

pub join_all-requires : goal.join_all-requires
join_all-requires c = joins.union_asked c.requires
