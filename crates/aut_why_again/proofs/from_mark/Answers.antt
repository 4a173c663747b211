use Prim.Native.Nat.{◌-◌, ◌%◌}
use native.Mathlib.Omega.{arith}
use Rattle.aut_query_calls.proofs.Works.{keeps_beside}
use Rattle.aut_why_words.proofs.Walks.{walk_keeps}
use Rattle.aut_why_words.proofs.Lent.{marks_tables}
use Rattle.aut_why_again.proofs.Steps as steps
use Rattle.aut_why_again.proofs.from_mark.Goals as goal

pub overflow_sub-k : goal.overflow_sub-k
overflow_sub-k c = steps.rest_low c.args.j c.args.rounds.step c.args.rounds.some

pub remake-requires : goal.remake-requires
remake-requires c = record { members = c.requires.members; rounds = c.requires.rounds; has = steps.earlier_has c.requires.earlier (c.args.j - c.args.j % c.args.rounds.step) (omega arith) }

pub returns-then-j-rounds-clause-gives : goal.returns-then-j-rounds-clause-gives
returns-then-j-rounds-clause-gives c =
    λ mem ws E. record { low = omega arith; kept = c.remake.ensures.gives mem ws (steps.earlier_has E (c.args.j - c.args.j % c.args.rounds.step) (omega arith)) }

pub restore-requires : goal.restore-requires
restore-requires c = record { states = walk_keeps c.requires.earlier.standing.walk; source = omega arith; apart = λ q. omega arith }

pub returns-clause-gives : goal.returns-clause-gives
returns-clause-gives c =
    λ mem ws E. rw c.restore.ensures.keeps.scratch (steps.restored_mark E (omega (arith, c.if-j-rounds.false)) (marks_tables (keeps_beside mem c.restore.ensures.keeps)) c.restore.ensures.gives)
