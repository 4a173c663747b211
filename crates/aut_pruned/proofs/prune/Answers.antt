use Rattle.refusal.proofs.Passed.{passed}
use Rattle.aut_pruned.proofs.Turns as turns
use Rattle.aut_pruned.proofs.prune.Goals as goal

pub stored_list-list-requires : goal.stored_list-list-requires
stored_list-list-requires c = turns.prune_find c.requires

pub loop-i-init : goal.loop-i-init
loop-i-init c = turns.prune_begin c.requires c.stored_list-list.ensures

pub get-t-requires : goal.get-t-requires
get-t-requires c = turns.prune_in c.requires c.stored_list-list.ensures c.loop-i.invariant c.loop-i-test.true

pub viable-requires : goal.viable-requires
viable-requires c = turns.prune_viable c.requires c.stored_list-list.ensures c.loop-i.invariant c.loop-i-test.true c.get-t.ensures

pub returns-in_err-label-clause-gives : goal.returns-in_err-label-clause-gives
returns-in_err-label-clause-gives c =
    rw (passed c.from_residual.ensures) (turns.prune_stuck c.requires c.stored_list-list.ensures c.loop-i.invariant c.loop-i-test.true c.get-t.ensures c.in_err-label.ensures.gives)

pub keep-m-requires : goal.keep-m-requires
keep-m-requires c = turns.prune_keep c.requires c.stored_list-list.ensures c.loop-i.invariant c.loop-i-test.true c.get-t.ensures c.in_ok-label.ensures.gives

pub loop-i-preserved : goal.loop-i-preserved
loop-i-preserved c =
    let l = c.in_ok-label.ensures in
    turns.prune_again c.requires c.stored_list-list.ensures c.loop-i.invariant c.loop-i-test.true c.get-t.ensures l.gives c.keep-m.ensures.keeps c.keep-m.ensures.kept l.keeps

pub returns-clause-gives : goal.returns-clause-gives
returns-clause-gives c = turns.prune_end c.requires c.stored_list-list.ensures c.loop-i.invariant c.loop-i-test.false
