use Rattle.aut_st_ops.proofs.Loops.{rows_asked, difference_loops, first_stuck, loop_asked, loop_done}
use Rattle.aut_st_ops.proofs.st_difference.Goals as goal

pub subtract_rows-requires : goal.subtract_rows-requires
subtract_rows-requires c = rows_asked c.requires c.zero-sum.ensures

pub returns-in_err-met-clause-gives : goal.returns-in_err-met-clause-gives
returns-in_err-met-clause-gives c =
    first_stuck (difference_loops c.requires c.zero-sum.ensures) c.from_residual.ensures c.in_err-met.ensures.gives

pub insert_each-requires : goal.insert_each-requires
insert_each-requires c =
    let g = c.in_ok-met.ensures.gives in
    loop_asked (difference_loops c.requires c.zero-sum.ensures) c.in_ok-met.ensures.keeps g g.post.then.holds.result g.post.then.holds.sum

pub returns-clause-gives : goal.returns-clause-gives
returns-clause-gives c =
    loop_done (difference_loops c.requires c.zero-sum.ensures) c.in_ok-met.ensures.keeps c.in_ok-met.ensures.gives c.insert_each.ensures.gives
