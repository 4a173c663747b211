use mathlib.Core.Path.{refl}
use native.Mathlib.Omega.{arith}
use Rattle.std.proofs.Common.{rules}
use Rattle.refusal.proofs.Passed.{passed}
use Rattle.aut_query_calls.specs.Working.{with_members}
use Rattle.aut_query_calls.proofs.Works.{keeps_beside}
use Rattle.aut_why_rounds.proofs.Passes as passes
use Rattle.aut_why_rounds.proofs.round.Goals as goal

pub loop-i-init : goal.loop-i-init
loop-i-init c = record { keeps = search rules; pending = refl; passed = λ mem before R. passes.pass_begin c.args.config (with_members mem c.args.aut.now) R }

pub state_at-s-requires : goal.state_at-s-requires
state_at-s-requires c =
    let Q = c.requires in
    let I = c.loop-i.invariant in
    rw I.pending (passes.pass_entry c.args.config (with_members Q.members c.args.aut.now) Q.rounding (I.passed Q.members Q.before Q.rounding) c.loop-i-test.true)

pub set_of-requires : goal.set_of-requires
set_of-requires c =
    let Q = c.requires in
    let I = c.loop-i.invariant in
    let x = with_members Q.members c.args.aut.now in
    record {
      members = Q.members;
      count = c.args.n;
      before = Q.before;
      rounding = passes.pass_asks c.args.config x Q.rounding (I.passed Q.members Q.before Q.rounding) I.pending;
      among = rw (c.state_at-s.ensures, I.pending) (passes.pass_in c.args.config x Q.rounding (I.passed Q.members Q.before Q.rounding) c.loop-i-test.true);
    }

pub returns-in_err-h-clause-gives : goal.returns-in_err-h-clause-gives
returns-in_err-h-clause-gives c = record {
  gives = λ mem before R.
      let I = c.loop-i.invariant in
      let v = I.passed mem before R in
      let k = c.args.config in
      let x = with_members mem c.args.aut.now in
      rw (passed c.from_residual.ensures)
      (passes.pass_stuck k x R v c.loop-i-test.true (passes.pass_given k x R v c.loop-i-test.true I.pending c.state_at-s.ensures (c.in_err-h.ensures.gives.gives mem c.args.n before)));
}

pub put_set-requires : goal.put_set-requires
put_set-requires c =
    let Q = c.requires in
    let I = c.loop-i.invariant in
    let v = I.passed Q.members Q.before Q.rounding in
    let k = c.args.config in
    let x = with_members Q.members c.args.aut.now in (
      rw c.set_of.ensures.keeps.states (rw (c.state_at-s.ensures, I.pending) (omega (arith, passes.pass_there k x Q.rounding v c.loop-i-test.true))),
      passes.pass_small k x Q.rounding v c.loop-i-test.true (keeps_beside Q.members c.set_of.ensures.keeps)
          (passes.pass_given k x Q.rounding v c.loop-i-test.true I.pending c.state_at-s.ensures (c.in_ok-h.ensures.gives.gives Q.members c.args.n Q.before)),
    )

pub loop-i-preserved : goal.loop-i-preserved
loop-i-preserved c = record {
  keeps = search rules;
  pending = search rules;
  passed = λ mem before R.
      let I = c.loop-i.invariant in
      let v = I.passed mem before R in
      let k = c.args.config in
      let x = with_members mem c.args.aut.now in
      let w = c.put_set.ensures in
      passes.pass_again k x R v c.loop-i-test.true (keeps_beside mem c.set_of.ensures.keeps)
      (passes.pass_given k x R v c.loop-i-test.true I.pending c.state_at-s.ensures (c.in_ok-h.ensures.gives.gives mem c.args.n before)) (keeps_beside mem w.keeps) (rw (c.state_at-s.ensures, I.pending) at w.gives);
}

pub returns-clause-gives : goal.returns-clause-gives
returns-clause-gives c = record {
  gives = λ mem before R. let I = c.loop-i.invariant in passes.pass_end c.args.config (with_members mem c.args.aut.now) R (I.passed mem before R) c.loop-i-test.false I.pending;
}
