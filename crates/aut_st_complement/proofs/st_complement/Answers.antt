use Rattle.std.specs.Prelude.{Err}
use Rattle.aut_st_stage.proofs.Run.{run_stuck}
use Rattle.aut_st_complement.proofs.Join as join
use Rattle.aut_st_complement.proofs.st_complement.Goals as goal

pub insert_each-requires : goal.insert_each-requires
insert_each-requires c = join.targets_asked c.requires

pub returns-in_err-n-clause-gives : goal.returns-in_err-n-clause-gives
returns-in_err-n-clause-gives c = run_stuck _ (join.run_0 c.requires) c.from_residual.ensures c.in_err-n.ensures.gives

pub cover_all-requires : goal.cover_all-requires
cover_all-requires c = join.cover_asked c.requires c.in_ok-n.ensures.keeps c.in_ok-n.ensures.gives

pub returns-in_err-sum-clause-gives : goal.returns-in_err-sum-clause-gives
returns-in_err-sum-clause-gives c =
    run_stuck _ (join.run_1 c.requires c.in_ok-n.ensures.keeps c.in_ok-n.ensures.gives) c.from_residual-in_err-sum.ensures (join.covered c.requires c.in_ok-n.ensures.keeps c.in_ok-n.ensures.gives c.in_err-sum.ensures.gives)

pub apply-requires : goal.apply-requires
apply-requires c =
    join.rest_asked c.requires c.in_ok-n.ensures.keeps c.in_ok-n.ensures.gives c.in_ok-sum.ensures.keeps c.in_ok-sum.ensures.gives

pub returns-in_err-label-clause-gives : goal.returns-in_err-label-clause-gives
returns-in_err-label-clause-gives c =
    run_stuck _ (join.run_2 c.requires c.in_ok-n.ensures.keeps c.in_ok-n.ensures.gives c.in_ok-sum.ensures.keeps c.in_ok-sum.ensures.gives) c.from_residual-in_err-label.ensures
    (join.rested c.requires c.in_ok-n.ensures.keeps c.in_ok-n.ensures.gives c.in_ok-sum.ensures.keeps c.in_ok-sum.ensures.gives c.in_err-label.ensures.keeps c.in_err-label.ensures.gives)

pub mk_top-requires : goal.mk_top-requires
mk_top-requires c =
    join.top_asked c.requires c.in_ok-n.ensures.keeps c.in_ok-n.ensures.gives c.in_ok-sum.ensures.keeps c.in_ok-sum.ensures.gives c.in_ok-label.ensures.keeps c.in_ok-label.ensures.gives

pub returns-in_err-target-clause-gives : goal.returns-in_err-target-clause-gives
returns-in_err-target-clause-gives c =
    run_stuck _ (join.run_3 c.requires c.in_ok-n.ensures.keeps c.in_ok-n.ensures.gives c.in_ok-sum.ensures.keeps c.in_ok-sum.ensures.gives c.in_ok-label.ensures.keeps c.in_ok-label.ensures.gives) c.from_residual-in_err-target.ensures
    (join.topped c.requires c.in_ok-n.ensures.keeps c.in_ok-n.ensures.gives c.in_ok-sum.ensures.keeps c.in_ok-sum.ensures.gives c.in_ok-label.ensures.keeps c.in_ok-label.ensures.gives {r = Err c.in_err-target.field-0.0} c.in_err-target.ensures.gives)

pub st_insert-requires : goal.st_insert-requires
st_insert-requires c =
    join.insert_asked c.requires c.in_ok-n.ensures.keeps c.in_ok-n.ensures.gives c.in_ok-sum.ensures.keeps c.in_ok-sum.ensures.gives c.in_ok-label.ensures.keeps c.in_ok-label.ensures.gives c.in_ok-target.ensures.same_table c.in_ok-target.ensures.gives

pub returns-clause-gives : goal.returns-clause-gives
returns-clause-gives c =
    join.inserted c.requires c.in_ok-n.ensures.keeps c.in_ok-n.ensures.gives c.in_ok-sum.ensures.keeps c.in_ok-sum.ensures.gives c.in_ok-label.ensures.keeps c.in_ok-label.ensures.gives c.in_ok-target.ensures.same_table c.in_ok-target.ensures.gives c.st_insert.ensures.gives
