use mathlib.Core.Path.{◌≡◌}
use Rattle.std.proofs.Common.{length, ◌<◌, arith, rules, tests, of_calls}
use Rattle.refusal.specs.declared.Refusal.TheVariants.{Form}
use Rattle.refusal.proofs.Passed.{passed}
use Rattle.book_run.proofs.Mapped.{mapped, through}
use Rattle.book_run.proofs.Lines as lines
use Rattle.book_run.proofs.go_on.Goals as goal

pub returns-then-left-eq0-clause-gives : goal.returns-then-left-eq0-clause-gives
returns-then-left-eq0-clause-gives c =
    let l : 0 < length c.loop-rest.rest.now = search (rules, tests) in
    let e : c.stop.result ≡ record { refusal = Form; line = c.loop-rest.line; length = c.loop-rest.place.output.at } = search rules in
    rw e (lines.going_many c.loop-rest.invariant l c.if-left-eq0.true)

pub returns-in_err-rest-clause-gives : goal.returns-in_err-rest-clause-gives
returns-in_err-rest-clause-gives c =
    let l : 0 < length c.loop-rest.rest.now = search (rules, tests) in
    let m = mapped c.turn.result _ _ c.in_err-rest.ensures.cases in
    let q = m.is in
    rw (passed c.from_residual.ensures) (lines.going_stopped c.loop-rest.invariant l (omega (arith, c.if-left-eq0.false)) (search of_calls) (rw m.was at c.turn.ensures.gives))

pub loop-rest-preserved : goal.loop-rest-preserved
loop-rest-preserved c =
    let l : 0 < length c.loop-rest.rest.now = search (rules, tests) in
    lines.going_again c.loop-rest.invariant l (omega (arith, c.if-left-eq0.false)) (rw (through _ c.turn.result c.in_ok-rest.ensures.cases) at c.turn.ensures.gives) c.turn.ensures.keeps

pub returns-clause-gives : goal.returns-clause-gives
returns-clause-gives c = lines.going_end c.loop-rest.invariant (search (rules, tests))
