use mathlib.Core.Path.{sym}
use native.Mathlib.Omega.{arith}
use Rattle.aut_why_marks.proofs.Loops as loops
use Rattle.aut_why_marks.proofs.renew.Goals as goal

pub copy_sets-requires : goal.copy_sets-requires
copy_sets-requires c =
    record { states = rw c.differ.ensures.pending (loops.keep_on c.requires c.differ.ensures.gives.words.len); from = omega arith; to = omega arith }

pub returns-clause-gives : goal.returns-clause-gives
returns-clause-gives c =
    loops.renewed c.differ.ensures.gives (loops.copied 9 8 (omega arith) (omega arith) (λ q. omega arith) (loops.keep_on c.requires c.differ.ensures.gives.words.len) (rw (sym c.differ.ensures.pending) c.copy_sets.ensures.gives))
