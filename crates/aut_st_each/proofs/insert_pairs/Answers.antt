use Rattle.refusal.proofs.Passed.{passed}
use Rattle.aut_st_steps.specs.Edges.{edges}
use Rattle.aut_st_steps.specs.EachSteps as M
use Rattle.aut_st_insert.specs.Clauses.{RESULT}
use Rattle.aut_st_stage.proofs.Turns.{source_in, turn_begin, turn_read, turn_edge, turn_list, turn_walked, turn_row, turn_stuck, turn_again, turn_end}
use Rattle.aut_st_edges.specs.Clauses.{edge_of}
use Rattle.aut_st_each.proofs.Turns.{each_all, pairs_folds}
use Rattle.aut_st_each.proofs.insert_pairs.Goals as goal

pub loop-i-init : goal.loop-i-init
loop-i-init c =
    turn_begin (pairs_folds c.args.config (source_in c.args.second c.args.aut.now)) c.requires.first c.requires.list.asked c.requires.list.list

pub get-t-requires : goal.get-t-requires
get-t-requires c = turn_read c.loop-i.invariant c.loop-i-test.true

pub insert_each-requires : goal.insert_each-requires
insert_each-requires c =
    let v = c.loop-i.invariant in
    record { list = turn_list v c.requires.list.limit; operands = turn_edge v c.loop-i-test.true c.get-t.ensures; walked = turn_walked v c.requires.second }

pub returns-in_err-n-clause-gives : goal.returns-in_err-n-clause-gives
returns-in_err-n-clause-gives c =
    let v = c.loop-i.invariant in
    rw (passed c.from_residual.ensures) (turn_stuck v c.loop-i-test.true c.get-t.ensures (turn_row v c.requires.second (λ us. each_all c.args.config (M.meet (edge_of c.get-t.result)) us (edges c.loop-i.aut.scratch.now RESULT c.loop-i.n)) c.in_err-n.ensures.gives))

pub loop-i-preserved : goal.loop-i-preserved
loop-i-preserved c =
    let v = c.loop-i.invariant in
    turn_again v c.loop-i-test.true c.get-t.ensures c.in_ok-n.ensures.keeps (turn_row v c.requires.second (λ us. each_all c.args.config (M.meet (edge_of c.get-t.result)) us (edges c.loop-i.aut.scratch.now RESULT c.loop-i.n)) c.in_ok-n.ensures.gives)

pub returns-clause-gives : goal.returns-clause-gives
returns-clause-gives c = turn_end c.loop-i.invariant c.loop-i-test.false
