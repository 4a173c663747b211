use native.Mathlib.Omega.{arith}
use mathlib.Core.Path.{refl}
use Rattle.refusal.proofs.Passed.{passed}
use Rattle.aut_st_insert.proofs.Placing as placing
use Rattle.aut_st_insert.proofs.place_in.Goals as goal

pub place_of-requires : goal.place_of-requires
place_of-requires c = omega (arith, placing.few c.requires, placing.room c.requires)

pub apply-requires : goal.apply-requires
apply-requires c = placing.place_handles c.requires c.in-Some.ensures

pub returns-in_err-u-clause-gives : goal.returns-in_err-u-clause-gives
returns-in_err-u-clause-gives c = rw (passed c.from_residual.ensures) (placing.full c.requires c.in-Some.ensures c.in_err-u.ensures.keeps c.in_err-u.ensures.gives)

pub returns-in-Some-clause-gives : goal.returns-in-Some-clause-gives
returns-in-Some-clause-gives c = placing.relabels c.requires c.in-Some.ensures c.in_ok-u.ensures.keeps c.in_ok-u.ensures.gives refl refl

pub returns-then-m-config-clause-gives : goal.returns-then-m-config-clause-gives
returns-then-m-config-clause-gives c = placing.too_long c.requires c.in_default.ensures c.if-m-config.true

pub returns-clause-gives : goal.returns-clause-gives
returns-clause-gives c = placing.enters c.requires c.in_default.ensures c.if-m-config.false c.enter.ensures refl c.enter.auto.words
