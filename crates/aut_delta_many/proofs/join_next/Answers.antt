use Rattle.aut_delta_many.specs.declared.Join.TheVariants as join
use Rattle.aut_delta_many.proofs.Joins as joins
use Rattle.aut_delta_many.proofs.join_next.Goals as goal

pub stored_list-list-requires : goal.stored_list-list-requires
stored_list-list-requires c = joins.next_find c.requires

pub set_aside-first-requires : goal.set_aside-first-requires
set_aside-first-requires c = joins.next_copy c.requires

pub st_union-requires : goal.st_union-requires
st_union-requires c = joins.next_ready c.requires c.stored_list-list.ensures c.set_aside-first.ensures.copied c.set_aside-first.auto.words c.set_aside-first.ensures.source c.source-second.ensures c.args.join

pub st_intersect-requires : goal.st_intersect-requires
st_intersect-requires c = joins.next_ready c.requires c.stored_list-list.ensures c.set_aside-first.ensures.copied c.set_aside-first.auto.words c.set_aside-first.ensures.source c.source-second.ensures c.args.join

pub returns-in-Union-clause-gives : goal.returns-in-Union-clause-gives
returns-in-Union-clause-gives c =
    joins.next_done c.requires c.stored_list-list.ensures c.set_aside-first.ensures.copied c.set_aside-first.auto.words c.set_aside-first.ensures.source c.source-second.ensures c.args.join join.Union c.in-Union.is c.st_union.ensures.gives

pub returns-in-Intersect-clause-gives : goal.returns-in-Intersect-clause-gives
returns-in-Intersect-clause-gives c =
    joins.next_done c.requires c.stored_list-list.ensures c.set_aside-first.ensures.copied c.set_aside-first.auto.words c.set_aside-first.ensures.source c.source-second.ensures c.args.join join.Intersect c.in-Intersect.is c.st_intersect.ensures.gives
