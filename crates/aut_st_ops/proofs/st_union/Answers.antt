use Rattle.aut_st_ops.proofs.Loops.{same_asked, union_loops, first_stuck, loop_asked, loop_done}
use Rattle.aut_st_ops.proofs.st_union.Goals as goal

pub insert_each-requires : goal.insert_each-requires
insert_each-requires c = same_asked c.requires.first

pub returns-in_err-n-clause-gives : goal.returns-in_err-n-clause-gives
returns-in_err-n-clause-gives c = first_stuck (union_loops c.requires) c.from_residual.ensures c.in_err-n.ensures.gives

pub insert_each-requires-2 : goal.insert_each-requires-2
insert_each-requires-2 c =
    let g = c.in_ok-n.ensures.gives in
    loop_asked (union_loops c.requires) c.in_ok-n.ensures.keeps g g.post.then.holds tt

pub returns-clause-gives : goal.returns-clause-gives
returns-clause-gives c = loop_done (union_loops c.requires) c.in_ok-n.ensures.keeps c.in_ok-n.ensures.gives c.insert_each-2.ensures.gives
