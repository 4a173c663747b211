use Rattle.std.proofs.Common.{refl, arith, of_calls}
use Rattle.refusal.proofs.Passed.{passed}
use Rattle.book_run.proofs.Mapped.{mapped, through}
use Rattle.book_run.proofs.Whole as whole
use Rattle.book_run.proofs.open.Goals as goal

pub returns-in_err-enough-clause-gives : goal.returns-in_err-enough-clause-gives
returns-in_err-enough-clause-gives c = rw (passed c.from_residual.ensures) (whole.open_short c.args.book.now c.args.place.now _ c.in_err-enough.ensures)

pub returns-in_err-setting-clause-gives : goal.returns-in_err-setting-clause-gives
returns-in_err-setting-clause-gives c =
    let m = mapped c.started.result _ _ c.in_err-setting.ensures.cases in
    let q = m.is in
    rw (passed c.from_residual-in_err-setting.ensures) (whole.open_not c.args.book.now c.args.place.now c.in_ok-enough.ensures (search of_calls) (rw m.was at c.started.ensures.gives))

pub go_on-requires : goal.go_on-requires
go_on-requires c =
    let s = rw (through _ c.started.result c.in_ok-setting.ensures.cases) at c.started.ensures.gives in
    record { standing = s.standing; more = omega (arith, s.lines); small = omega arith }

pub returns-in_err-go_on-clause-gives : goal.returns-in_err-go_on-clause-gives
returns-in_err-go_on-clause-gives c =
    whole.open_stopped c.args.book.now c.args.place.now c.in_ok-enough.ensures (rw (through _ c.started.result c.in_ok-setting.ensures.cases) at c.started.ensures.gives) c.in_err-go_on.ensures.gives c.from_residual-in_err-go_on.ensures

pub returns-clause-gives : goal.returns-clause-gives
returns-clause-gives c =
    whole.open_went c.args.book.now c.args.place.now c.in_ok-enough.ensures (rw (through _ c.started.result c.in_ok-setting.ensures.cases) at c.started.ensures.gives) c.in_ok-go_on.ensures.gives refl
