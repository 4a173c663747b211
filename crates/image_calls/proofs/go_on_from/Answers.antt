use Rattle.std.proofs.Common.{refl, of_calls}
use Rattle.refusal.proofs.Passed.{passed}
use Rattle.book_run.proofs.Mapped.{mapped, through}
use Rattle.image_calls.proofs.Whole as its
use Rattle.image_calls.proofs.go_on_from.Goals as goal

pub returns-in_err-enough-clause-gives : goal.returns-in_err-enough-clause-gives
returns-in_err-enough-clause-gives c =
    rw (passed c.from_residual.ensures) (its.on_short c.args.image.now c.args.book.now c.args.place.now c.in_err-enough.ensures)

pub returns-in_err-setting-clause-gives : goal.returns-in_err-setting-clause-gives
returns-in_err-setting-clause-gives c =
    let m = mapped c.read.result _ _ c.in_err-setting.ensures.cases in
    let q = m.is in
    rw (passed c.from_residual-in_err-setting.ensures) (its.on_refused c.args.image.now c.args.book.now c.args.place.now c.requires.empty c.in_ok-enough.ensures c.read.ensures.keeps c.read.ensures.beside (search of_calls) (rw m.was at c.read.ensures.gives))

pub go_on-requires : goal.go_on-requires
go_on-requires c =
    its.on_ready c.args.image.now c.args.book.now c.args.place.now c.requires.empty c.in_ok-enough.ensures c.read.ensures.keeps c.read.ensures.beside (rw (through _ c.read.result c.in_ok-setting.ensures.cases) at c.read.ensures.gives)

pub returns-in_err-go_on-clause-gives : goal.returns-in_err-go_on-clause-gives
returns-in_err-go_on-clause-gives c =
    its.on_stopped c.args.image.now c.args.book.now c.args.place.now c.requires.empty c.in_ok-enough.ensures c.read.ensures.keeps c.read.ensures.beside (rw (through _ c.read.result c.in_ok-setting.ensures.cases) at c.read.ensures.gives) c.in_err-go_on.ensures.gives c.from_residual-in_err-go_on.ensures

pub returns-clause-gives : goal.returns-clause-gives
returns-clause-gives c =
    its.on_went c.args.image.now c.args.book.now c.args.place.now c.requires.empty c.in_ok-enough.ensures c.read.ensures.keeps c.read.ensures.beside (rw (through _ c.read.result c.in_ok-setting.ensures.cases) at c.read.ensures.gives) c.in_ok-go_on.ensures.gives refl
