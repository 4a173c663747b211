use Rattle.refusal.proofs.Passed.{passed}
use Rattle.aut_empty.proofs.Runs as runs
use Rattle.aut_empty.proofs.search.Goals as goal

pub loop-n-init : goal.loop-n-init
loop-n-init c = runs.sought_begin c.requires c.args.budget

pub returns-then-count-budget-clause-gives : goal.returns-then-count-budget-clause-gives
returns-then-count-budget-clause-gives c = runs.sought_spent c.requires c.args.budget c.loop-n.invariant c.loop-n-test.true c.if-count-budget.true

pub turn-requires : goal.turn-requires
turn-requires c = runs.turn_asks c.requires c.args.budget c.loop-n.invariant c.loop-n-test.true

pub returns-in_err-m-clause-gives : goal.returns-in_err-m-clause-gives
returns-in_err-m-clause-gives c =
    runs.sought_stuck c.requires c.args.budget c.loop-n.invariant c.loop-n-test.true c.if-count-budget.false (passed c.from_residual.ensures) c.in_err-m.ensures.gives

pub returns-in_default-clause-gives : goal.returns-in_default-clause-gives
returns-in_default-clause-gives c =
    runs.sought_found c.requires c.args.budget c.loop-n.invariant c.loop-n-test.true c.if-count-budget.false c.in_ok-m.ensures.gives c.in_default.is

pub loop-n-preserved : goal.loop-n-preserved
loop-n-preserved c =
    let t = c.in_ok-m.ensures in
    runs.sought_again c.requires c.args.budget c.loop-n.invariant c.loop-n-test.true c.if-count-budget.false t.gives c.in-Some.is t.keeps

pub returns-clause-gives : goal.returns-clause-gives
returns-clause-gives c = runs.sought_yes c.requires c.args.budget c.loop-n.invariant c.loop-n-test.false
