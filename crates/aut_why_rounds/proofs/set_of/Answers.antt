use Rattle.aut_query_calls.specs.Working.{with_members}
use Rattle.aut_why_rounds.proofs.Passes as passes
use Rattle.aut_why_rounds.proofs.set_of.Goals as goal

pub ends_at-requires : goal.ends_at-requires
ends_at-requires c = record { members = c.requires.members; visited = passes.step_visited c.requires.rounding c.requires.among }

pub returns-then-first-clause-gives : goal.returns-then-first-clause-gives
returns-then-first-clause-gives c = record {
  gives = λ mem n before R m.
      passes.step_ends c.args.config before c.args.s (with_members mem c.args.aut.now) c.ends_at.result (with_members mem c.ends_at.new.aut) c.if-first.true (c.ends_at.ensures.gives.gives mem (passes.step_visited R m));
}

pub turn-requires : goal.turn-requires
turn-requires c =
    let Q = c.requires in
    record { members = Q.members; entries = c.args.aut.now.pending.now; count = Q.count; before = Q.before; turning = passes.step_turning Q.rounding Q.among c.if-first.false }

pub returns-clause-gives : goal.returns-clause-gives
returns-clause-gives c = record {
  gives = λ mem n before R m.
      passes.step_turns c.args.config before c.args.s (with_members mem c.args.aut.now) c.turn.result (with_members mem c.turn.new.aut) c.if-first.false
      (c.turn.ensures.gives.gives mem c.args.aut.now.pending.now n before (passes.step_turning R m c.if-first.false));
}
