use Rattle.refusal.proofs.Passed.{passed}
use Rattle.aut_query_calls.specs.Working.{with_members}
use Rattle.aut_query_calls.proofs.Works.{keeps_beside}
use Rattle.aut_why_rounds.proofs.Turns as turns
use Rattle.aut_why_rounds.proofs.turn.Goals as goal

pub ends_at-requires : goal.ends_at-requires
ends_at-requires c = record { members = c.requires.members; visited = turns.turn_visited c.requires.turning }

pub returns-in_err-u-clause-gives : goal.returns-in_err-u-clause-gives
returns-in_err-u-clause-gives c = record {
  gives = λ mem p n before T. rw (passed c.from_residual.ensures) (turns.turn_stuck c.args.config (with_members mem c.args.aut.now) T (c.in_err-u.ensures.gives.gives mem (turns.turn_visited T)));
}

pub join_all-requires : goal.join_all-requires
join_all-requires c =
    let Q = c.requires in
    let x = with_members Q.members c.args.aut.now in
    let A = keeps_beside Q.members c.ends_at.ensures.keeps in
    let G = c.in_ok-u.ensures.gives.gives Q.members (turns.turn_visited Q.turning) in
    record {
      turn = record { members = Q.members; entries = Q.entries; count = Q.count; before = Q.before; turning = turns.turn_after c.args.config x Q.turning A G };
      at = turns.turn_at c.args.config x Q.turning A G;
    }

pub returns-clause-gives : goal.returns-clause-gives
returns-clause-gives c = record {
  gives = λ mem p n before T.
      let x = with_members mem c.args.aut.now in
      let A = keeps_beside mem c.ends_at.ensures.keeps in
      let G = c.in_ok-u.ensures.gives.gives mem (turns.turn_visited T) in
      turns.turn_done c.args.config x T A G (c.join_all.ensures.gives.gives mem p n before (turns.turn_after c.args.config x T A G) (turns.turn_at c.args.config x T A G));
}
