use Rattle.aut_delta_many.proofs.Joins as joins
use Rattle.aut_delta_many.proofs.intersect_all.Goals as goal

pub stored_list-list-requires : goal.stored_list-list-requires
stored_list-list-requires c = joins.first_find c.requires

pub take-requires : goal.take-requires
take-requires c = joins.first_take c.requires c.stored_list-list.ensures

pub join_all-requires : goal.join_all-requires
join_all-requires c = joins.rest_asked c.requires c.stored_list-list.ensures c.take.ensures c.take.auto.scratch

pub returns-clause-gives : goal.returns-clause-gives
returns-clause-gives c = joins.intersect_done c.requires c.stored_list-list.ensures c.take.ensures c.take.auto.scratch c.join_all.ensures.gives
