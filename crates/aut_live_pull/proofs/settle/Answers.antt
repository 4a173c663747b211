use Rattle.std.proofs.Common.{rules}
use Rattle.aut_query_calls.proofs.Works.{keeps_beside}
use Rattle.aut_live_pull.proofs.SettlingLoops as loops
use Rattle.aut_live_pull.proofs.settle.Goals as goal

pub loop-m-init : goal.loop-m-init
loop-m-init c = record { keeps = search rules; high = loops.settle_high (loops.settle_begin c.requires.ready); between = λ mem S. loops.settle_begin S }

pub pull_all-requires : goal.pull_all-requires
pull_all-requires c =
    let Q = c.requires in
    record { members = Q.members; target = loops.settle_target (c.loop-m.invariant.between Q.members Q.ready) c.loop-m-test.true }

pub returns-in_err-m-clause-gives : goal.returns-in_err-m-clause-gives
returns-in_err-m-clause-gives c = record {
  gives = λ mem S.
      let v = c.loop-m.invariant.between mem S in
      loops.settle_stuck v c.loop-m-test.true c.from_residual.ensures (c.in_err-m.ensures.gives mem (loops.settle_target v c.loop-m-test.true));
}

pub loop-m-smaller : goal.loop-m-smaller
loop-m-smaller c =
    let Q = c.requires in
    let v = c.loop-m.invariant.between Q.members Q.ready in
    loops.settle_less v c.loop-m-test.true (c.in_ok-m.ensures.gives Q.members (loops.settle_target v c.loop-m-test.true))

pub loop-m-preserved : goal.loop-m-preserved
loop-m-preserved c = record {
  keeps = loops.settle_keeps c.loop-m.m c.loop-m.invariant.keeps c.in_ok-m.ensures.keeps;
  high =
      let Q = c.requires in
      let v = c.loop-m.invariant.between Q.members Q.ready in
      loops.settle_high (loops.settle_again v c.loop-m-test.true (c.in_ok-m.ensures.gives Q.members (loops.settle_target v c.loop-m-test.true)) (keeps_beside Q.members c.in_ok-m.ensures.keeps));
  between = λ mem S.
      let v = c.loop-m.invariant.between mem S in
      loops.settle_again v c.loop-m-test.true (c.in_ok-m.ensures.gives mem (loops.settle_target v c.loop-m-test.true)) (keeps_beside mem c.in_ok-m.ensures.keeps);
}

pub returns-clause-gives : goal.returns-clause-gives
returns-clause-gives c = record { gives = λ mem S. loops.settle_end (c.loop-m.invariant.between mem S) c.loop-m-test.false }
