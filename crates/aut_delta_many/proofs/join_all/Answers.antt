use Rattle.aut_relations.proofs.Kept.{keeps_trans}
use Rattle.aut_delta_many.proofs.Joins as joins
use Rattle.aut_delta_many.proofs.join_all.Goals as goal

pub loop-i-init : goal.loop-i-init
loop-i-init c = joins.all_begin c.requires

pub bounds-aut-from : goal.bounds-aut-from
bounds-aut-from c = joins.all_read c.loop-i.invariant c.loop-i-test.true

pub join_next-requires : goal.join_next-requires
join_next-requires c = joins.all_next c.loop-i.invariant c.loop-i-test.true

pub returns-in_err-m-clause-keeps : goal.returns-in_err-m-clause-keeps
returns-in_err-m-clause-keeps c = keeps_trans c.loop-i.invariant.keeps c.in_err-m.ensures.keeps

pub returns-in_err-m-clause-gives : goal.returns-in_err-m-clause-gives
returns-in_err-m-clause-gives c = joins.all_stuck c.loop-i.invariant c.loop-i-test.true c.from_residual.ensures c.in_err-m.ensures.gives

pub loop-i-preserved : goal.loop-i-preserved
loop-i-preserved c = joins.all_again c.loop-i.invariant c.loop-i-test.true c.in_ok-m.ensures.keeps c.in_ok-m.ensures.gives

pub returns-clause-keeps : goal.returns-clause-keeps
returns-clause-keeps c = c.loop-i.invariant.keeps

pub returns-clause-gives : goal.returns-clause-gives
returns-clause-gives c = joins.all_end c.loop-i.invariant c.loop-i-test.false
