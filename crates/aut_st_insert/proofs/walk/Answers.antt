use Rattle.refusal.proofs.Passed.{passed}
use Rattle.aut_st_insert.proofs.Walking as walking
use Rattle.aut_st_insert.proofs.walk.Goals as goal

pub loop-i-init : goal.loop-i-init
loop-i-init c = walking.walk_begin c.requires c.zero-sum.ensures

pub taken-u-requires : goal.taken-u-requires
taken-u-requires c = walking.word_in c.loop-i.invariant c.loop-i-test.true

pub split_one-requires : goal.split_one-requires
split_one-requires c = walking.split_asked c.loop-i.invariant c.loop-i-test.true c.taken-u.ensures

pub returns-in_err-met-clause-gives : goal.returns-in_err-met-clause-gives
returns-in_err-met-clause-gives c = rw (passed c.from_residual.ensures) (walking.walk_stuck c.loop-i.invariant c.loop-i-test.true c.taken-u.ensures c.in_err-met.ensures.gives)

pub loop-i-preserved : goal.loop-i-preserved
loop-i-preserved c = walking.walk_again c.loop-i.invariant c.loop-i-test.true c.taken-u.ensures c.in_ok-met.ensures.keeps c.in_ok-met.ensures.gives

pub returns-clause-gives : goal.returns-clause-gives
returns-clause-gives c = walking.walk_end c.loop-i.invariant c.loop-i-test.false
