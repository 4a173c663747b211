use Rattle.aut_delta_lists.proofs.Stored as lists
use Rattle.aut_delta_lists.proofs.until_list.Goals as goal

pub mk_until-requires : goal.mk_until-requires
mk_until-requires c = lists.until_make c.requires

pub returns-in_err-u-clause-gives : goal.returns-in_err-u-clause-gives
returns-in_err-u-clause-gives c = lists.until_stuck_1 c.requires _ c.from_residual.ensures c.in_err-u.ensures.gives

pub st_intersect_expr-requires : goal.st_intersect_expr-requires
st_intersect_expr-requires c = lists.until_meet c.requires c.in_ok-u.ensures.same_table c.in_ok-u.ensures.gives c.source.ensures

pub returns-in_err-n-clause-gives : goal.returns-in_err-n-clause-gives
returns-in_err-n-clause-gives c =
    lists.until_stuck_2 c.requires c.in_ok-u.ensures.same_table c.in_ok-u.ensures.gives c.source.ensures c.from_residual-in_err-n.ensures c.in_err-n.ensures.gives

pub set_aside-met-requires : goal.set_aside-met-requires
set_aside-met-requires c = lists.until_copy c.requires c.in_ok-u.ensures.same_table c.in_ok-u.ensures.gives c.source.ensures c.in_ok-n.ensures.keeps c.in_ok-n.ensures.gives

pub st_union-requires : goal.st_union-requires
st_union-requires c =
    lists.until_join c.requires c.in_ok-u.ensures.same_table c.in_ok-u.ensures.gives c.source.ensures c.in_ok-n.ensures.keeps c.in_ok-n.ensures.gives c.set_aside-met.ensures.copied c.set_aside-met.auto.words c.source-2.ensures c.set_aside-met.ensures.source

pub returns-clause-gives : goal.returns-clause-gives
returns-clause-gives c =
    lists.until_done c.requires c.in_ok-u.ensures.same_table c.in_ok-u.ensures.gives c.source.ensures c.in_ok-n.ensures.keeps c.in_ok-n.ensures.gives c.set_aside-met.ensures.copied c.set_aside-met.auto.words c.source-2.ensures c.set_aside-met.ensures.source c.st_union.ensures.gives
