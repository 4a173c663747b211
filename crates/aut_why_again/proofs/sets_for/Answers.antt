use Rattle.aut_why_again.proofs.Steps as steps
use Rattle.aut_why_again.proofs.sets_for.Goals as goal

pub forward-requires : goal.forward-requires
forward-requires c =
    let Q = c.requires in
    rw c.from_mark-k.ensures.pending (record { members = Q.members; rounds = Q.rounds; ahead = steps.sets_ahead Q.earlier (c.from_mark-k.ensures.gives Q.members Q.rounds Q.earlier) })

pub returns-clause-gives : goal.returns-clause-gives
returns-clause-gives c =
    let F = rw c.from_mark-k.ensures.pending at c.forward.ensures.gives in
    λ mem ws E. let M = c.from_mark-k.ensures.gives mem ws E in steps.sets_end E M (F mem ws (steps.sets_ahead E M))
