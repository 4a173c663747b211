use Rattle.refusal.proofs.Passed.{passed}
use Rattle.aut_st_steps.proofs.EachSteps.{each_grown}
use Rattle.aut_st_stage.proofs.Turns.{turn_begin, turn_read, turn_edge, turn_list, turn_stuck, turn_again, turn_end}
use Rattle.aut_st_each.specs.Clauses.{each_of}
use Rattle.aut_st_each.proofs.Turns.{each_folds}
use Rattle.aut_st_each.proofs.insert_each.Goals as goal

pub loop-i-init : goal.loop-i-init
loop-i-init c =
    turn_begin (each_folds c.args.config (each_of c.args.each)) c.requires.walked c.requires.list.asked c.requires.list.list

pub get-t-requires : goal.get-t-requires
get-t-requires c = turn_read c.loop-i.invariant c.loop-i-test.true

pub insert_made-requires : goal.insert_made-requires
insert_made-requires c =
    let v = c.loop-i.invariant in (
      turn_list v c.requires.list.limit,
      record { asked = v.asked; operands = each_grown c.args.config.fields v.turned.stage.ext.grown (each_of c.args.each) c.requires.operands; edge = turn_edge v c.loop-i-test.true c.get-t.ensures },
    )

pub returns-in_err-n-clause-gives : goal.returns-in_err-n-clause-gives
returns-in_err-n-clause-gives c = rw (passed c.from_residual.ensures) (turn_stuck c.loop-i.invariant c.loop-i-test.true c.get-t.ensures c.in_err-n.ensures.gives)

pub loop-i-preserved : goal.loop-i-preserved
loop-i-preserved c =
    turn_again c.loop-i.invariant c.loop-i-test.true c.get-t.ensures c.in_ok-n.ensures.keeps c.in_ok-n.ensures.gives

pub returns-clause-gives : goal.returns-clause-gives
returns-clause-gives c = turn_end c.loop-i.invariant c.loop-i-test.false
