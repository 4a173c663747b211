use native.Mathlib.Omega.{arith}
use Rattle.aut_query_calls.specs.Working.{with_members}
use Rattle.aut_query_calls.proofs.Works.{keeps_beside}
use Rattle.aut_why_words.proofs.Walks.{walk_keeps}
use Rattle.aut_why_words.proofs.Lent.{marks_tables}
use Rattle.aut_why_marks.proofs.Loops.{keep_on}
use Rattle.aut_why_again.proofs.Runs as runs
use Rattle.aut_why_again.proofs.Steps as steps
use Rattle.aut_why_again.proofs.start.Goals as goal

pub round-requires : goal.round-requires
round-requires c =
    let Q = c.requires in
    record { members = Q.members; before = λ x. 0; rounding = runs.zero_asks c.args.config (with_members Q.members c.args.aut.now) Q.standing (λ x. 0) }

pub unwrap-requires : goal.unwrap-requires
unwrap-requires c =
    let Q = c.requires in
    let x = with_members Q.members c.args.aut.now in
    runs.zero_stands c.args.config x Q.standing c.round.result (c.round.ensures.gives.gives Q.members (λ x. 0) (runs.zero_asks c.args.config x Q.standing (λ x. 0)))

pub restore-requires : goal.restore-requires
restore-requires c =
    rw c.round.ensures.pending (record { states = keep_on (walk_keeps c.requires.standing.walk) c.round.ensures.keeps.states.length; source = omega arith; apart = λ q. omega arith })

pub returns-clause-gives : goal.returns-clause-gives
returns-clause-gives c =
    let R = rw c.round.ensures.pending at c.restore.ensures.gives in
    λ mem ws S.
    let x = with_members mem c.args.aut.now in
    let D = rw c.unwrap.ensures at c.round.ensures.gives.gives mem (λ x. 0) (runs.zero_asks c.args.config x S (λ x. 0)) in
    rw c.restore.ensures.keeps.scratch
    (steps.start_end (runs.zero_turned c.args.config x S D (keeps_beside mem c.round.ensures.keeps) c.round.ensures.pending) (marks_tables (keeps_beside mem c.restore.ensures.keeps)) R)
