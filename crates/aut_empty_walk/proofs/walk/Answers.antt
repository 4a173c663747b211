use Rattle.refusal.proofs.Passed.{passed}
use Rattle.aut_empty_walk.proofs.Walks as walks
use Rattle.aut_empty_walk.proofs.walk.Goals as goal

pub stored_list-list-requires : goal.stored_list-list-requires
stored_list-list-requires c = walks.walk_find c.requires

pub loop-j-init : goal.loop-j-init
loop-j-init c = walks.walk_begin c.requires

pub get-t-requires : goal.get-t-requires
get-t-requires c = walks.walk_in c.requires c.stored_list-list.ensures c.loop-j.invariant c.loop-j-test.true

pub follow-requires : goal.follow-requires
follow-requires c = walks.follow_asks c.requires c.stored_list-list.ensures c.loop-j.invariant c.loop-j-test.true c.get-t.ensures

pub returns-in_err-m-clause-gives : goal.returns-in_err-m-clause-gives
returns-in_err-m-clause-gives c =
    walks.walk_stuck c.requires c.stored_list-list.ensures c.loop-j.invariant c.loop-j-test.true c.get-t.ensures (passed c.from_residual.ensures) c.in_err-m.ensures.gives

pub loop-j-preserved : goal.loop-j-preserved
loop-j-preserved c =
    let e = c.in_ok-m.ensures in
    walks.walk_again c.requires c.stored_list-list.ensures c.loop-j.invariant c.loop-j-test.true c.get-t.ensures e.keeps e.states e.gives

pub returns-clause-gives : goal.returns-clause-gives
returns-clause-gives c = walks.walk_end c.requires c.stored_list-list.ensures c.loop-j.invariant c.loop-j-test.false
