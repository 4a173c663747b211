use native.Mathlib.Omega.{arith}
use Rattle.refusal.proofs.Passed.{passed}
use Rattle.aut_query_calls.specs.Working.{with_members}
use Rattle.aut_query_calls.proofs.Works.{keeps_beside}
use Rattle.aut_why_rounds.proofs.Turns as turns
use Rattle.aut_why_rounds.proofs.join_one.Goals as goal

pub set_at-ahead-requires : goal.set_at-ahead-requires
set_at-ahead-requires c = (omega (arith, c.requires.joining.there), c.requires.joining.some)

pub pull-requires : goal.pull-requires
pull-requires c = rw c.set_at-ahead.ensures (turns.pull_asks c.args.config (with_members c.requires.members c.args.aut.now) c.requires.joining)

pub returns-in_err-back-clause-gives : goal.returns-in_err-back-clause-gives
returns-in_err-back-clause-gives c = record {
  gives = λ mem J.
      rw (passed c.from_residual.ensures)
      (turns.pull_stuck c.args.config (with_members mem c.args.aut.now) J (keeps_beside mem c.pull.ensures.keeps) (rw c.set_at-ahead.ensures at c.in_err-back.ensures.gives));
}

pub union-requires : goal.union-requires
union-requires c =
    let Q = c.requires in
    turns.union_asks c.args.config (with_members Q.members c.args.aut.now) Q.joining (keeps_beside Q.members c.pull.ensures.keeps) (rw c.set_at-ahead.ensures at c.in_ok-back.ensures.gives)

pub returns-clause-gives : goal.returns-clause-gives
returns-clause-gives c = record {
  gives = λ mem J.
      turns.join_done c.args.config (with_members mem c.args.aut.now) J (keeps_beside mem c.pull.ensures.keeps) (rw c.set_at-ahead.ensures at c.in_ok-back.ensures.gives)
      (keeps_beside mem c.union.ensures.keeps) c.union.ensures.gives;
}
