use Rattle.refusal.proofs.Passed.{passed}
use Rattle.aut_st_steps.proofs.Edges.{edge_grown}
use Rattle.aut_st_edges.specs.Clauses.{edge_of}
use Rattle.aut_st_stage.proofs.Turns.{turn_begin, turn_edge, turn_stuck, turn_again, turn_end}
use Rattle.aut_st_minus.proofs.Loops.{row_folds, sum_list}
use Rattle.aut_st_minus.proofs.subtract_row.Goals as goal

pub loop-i-init : goal.loop-i-init
loop-i-init c =
    turn_begin (row_folds c.args.config (edge_of c.args.t)) c.requires.second c.requires.list.asked (record { sum = c.requires.sum; result = c.requires.list.list })

pub subtract_one-requires : goal.subtract_one-requires
subtract_one-requires c =
    let v = c.loop-i.invariant in
    record { list = sum_list v c.requires.list.limit; first = edge_grown v.turned.stage.ext.grown c.requires.first; second = turn_edge v c.loop-i-test.true c.get-u.ensures; sum = v.turned.holds.sum }

pub returns-in_err-met-clause-gives : goal.returns-in_err-met-clause-gives
returns-in_err-met-clause-gives c =
    rw (passed c.from_residual.ensures)
    (turn_stuck c.loop-i.invariant c.loop-i-test.true c.get-u.ensures c.in_err-met.ensures.gives)

pub loop-i-preserved : goal.loop-i-preserved
loop-i-preserved c = turn_again c.loop-i.invariant c.loop-i-test.true c.get-u.ensures c.in_ok-met.ensures.keeps c.in_ok-met.ensures.gives

pub returns-clause-gives : goal.returns-clause-gives
returns-clause-gives c = turn_end c.loop-i.invariant c.loop-i-test.false
