use Rattle.std.proofs.Common.{rules}
use Rattle.aut_query_calls.proofs.Works.{keeps_beside}
use Rattle.aut_live_pull.proofs.SettlingLoops as loops
use Rattle.aut_live_pull.proofs.pull_all.Goals as goal

pub loop-i-init : goal.loop-i-init
loop-i-init c = record { keeps = search rules; all = λ mem T. loops.all_begin T }

pub state_at-s-requires : goal.state_at-s-requires
state_at-s-requires c = loops.all_entry (c.loop-i.invariant.all c.requires.members c.requires.target) c.loop-i-test.true

pub pull_from-requires : goal.pull_from-requires
pull_from-requires c =
    let Q = c.requires in
    record { members = Q.members; count = c.args.n; source = rw c.state_at-s.ensures (loops.all_source (c.loop-i.invariant.all Q.members Q.target) c.loop-i-test.true) }

pub returns-in_err-m-clause-gives : goal.returns-in_err-m-clause-gives
returns-in_err-m-clause-gives c = λ mem T.
    let v = c.loop-i.invariant.all mem T in
    loops.all_stuck v c.loop-i-test.true c.from_residual.ensures ((rw c.state_at-s.ensures at c.in_err-m.ensures.gives) mem c.args.n (loops.all_source v c.loop-i-test.true))

pub loop-i-preserved : goal.loop-i-preserved
loop-i-preserved c = record {
  keeps = search rules;
  all = λ mem T.
      let v = c.loop-i.invariant.all mem T in
      loops.all_again v c.loop-i-test.true (keeps_beside mem c.in_ok-m.ensures.keeps) ((rw c.state_at-s.ensures at c.in_ok-m.ensures.gives) mem c.args.n (loops.all_source v c.loop-i-test.true));
}

pub returns-clause-gives : goal.returns-clause-gives
returns-clause-gives c = λ mem T. loops.all_end (c.loop-i.invariant.all mem T) c.loop-i-test.false
