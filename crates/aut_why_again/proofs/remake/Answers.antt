use mathlib.Core.Path.{◌∙◌}
use native.Mathlib.Omega.{arith}
use Rattle.aut_query_calls.proofs.Works.{keeps_beside}
use Rattle.aut_why_words.proofs.Walks.{walk_keeps}
use Rattle.aut_why_words.proofs.Lent.{marks_tables}
use Rattle.aut_why_marks.proofs.Loops.{keep_on, copied}
use Rattle.aut_why_again.proofs.Steps as steps
use Rattle.aut_why_again.proofs.remake.Goals as goal

pub forward-requires : goal.forward-requires
forward-requires c =
    let Q = c.requires in
    rw c.start.ensures.pending (record { members = Q.members; rounds = Q.rounds; ahead = steps.remake_ahead Q.has (c.start.ensures.gives Q.members Q.rounds Q.has.standing) })

pub copy_sets-requires : goal.copy_sets-requires
copy_sets-requires c =
    rw (c.forward.ensures.pending, c.start.ensures.pending) (record {
      states = keep_on (walk_keeps c.requires.has.standing.walk) (c.forward.ensures.keeps.states.length ∙ c.start.ensures.keeps.states.length);
      from = omega arith;
      to = omega arith;
    })

pub returns-clause-gives : goal.returns-clause-gives
returns-clause-gives c =
    let E = rw c.start.ensures.pending at c.forward.ensures.gives in
    let F = rw (c.forward.ensures.pending, c.start.ensures.pending) at c.copy_sets.ensures.gives in
    λ mem ws H. let B = c.start.ensures.gives mem ws H.standing in
    rw c.copy_sets.ensures.keeps.scratch (steps.remake_end H B (E mem ws (steps.remake_ahead H B)) (marks_tables (keeps_beside mem c.copy_sets.ensures.keeps))
    (copied 8 10 (omega arith) (omega arith) (λ q. omega arith) (keep_on (walk_keeps H.standing.walk) (c.forward.ensures.keeps.states.length ∙ c.start.ensures.keeps.states.length)) F))
