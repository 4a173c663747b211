use Rattle.refusal.proofs.Passed.{passed}
use Rattle.aut_st_stage.proofs.Turns.{source_in, turn_begin, turn_edge, turn_walked, turn_stuck, turn_again, turn_end}
use Rattle.aut_st_minus.proofs.Loops.{rows_folds, sum_list, sum_row}
use Rattle.aut_st_minus.proofs.subtract_rows.Goals as goal

pub loop-i-init : goal.loop-i-init
loop-i-init c =
    turn_begin (rows_folds c.args.config (source_in c.args.second c.args.aut.now)) c.requires.first c.requires.list.asked (record { sum = c.requires.sum; result = c.requires.list.list })

pub subtract_row-requires : goal.subtract_row-requires
subtract_row-requires c =
    let v = c.loop-i.invariant in
    record { list = sum_list v c.requires.list.limit; first = turn_edge v c.loop-i-test.true c.get-t.ensures; second = turn_walked v c.requires.second; sum = v.turned.holds.sum }

pub returns-in_err-met-clause-gives : goal.returns-in_err-met-clause-gives
returns-in_err-met-clause-gives c =
    rw (passed c.from_residual.ensures)
    (turn_stuck c.loop-i.invariant c.loop-i-test.true c.get-t.ensures (sum_row c.loop-i.invariant c.requires.second _ c.in_err-met.ensures.gives))

pub loop-i-preserved : goal.loop-i-preserved
loop-i-preserved c =
    turn_again c.loop-i.invariant c.loop-i-test.true c.get-t.ensures c.in_ok-met.ensures.keeps (sum_row c.loop-i.invariant c.requires.second _ c.in_ok-met.ensures.gives)

pub returns-clause-gives : goal.returns-clause-gives
returns-clause-gives c = turn_end c.loop-i.invariant c.loop-i-test.false
