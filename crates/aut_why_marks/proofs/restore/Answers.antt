use mathlib.Core.Path.{sym}
use native.Mathlib.Omega.{arith}
use Rattle.aut_why_marks.proofs.Loops as loops
use Rattle.aut_why_marks.proofs.restore.Goals as goal

pub copy_sets-requires : goal.copy_sets-requires
copy_sets-requires c = record { states = c.requires.states; from = c.requires.source; to = omega arith }

pub fill-requires : goal.fill-requires
fill-requires c =
    record { states = rw c.copy_sets.ensures.pending (loops.keep_on c.requires.states c.copy_sets.ensures.keeps.states.length); word = omega arith }

pub returns-clause-gives : goal.returns-clause-gives
returns-clause-gives c =
    loops.restored (loops.copied c.args.from 8 c.requires.source (omega arith) c.requires.apart c.requires.states c.copy_sets.ensures.gives) (rw (sym c.copy_sets.ensures.pending) c.fill.ensures.gives)
