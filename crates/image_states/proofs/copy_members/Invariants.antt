use Rattle.image_states.proofs.Copying as its
use Rattle.image_states.proofs.copy_members.Given as goal

abbrev pub invariant-loop-j : goal.invariant-loop-j
invariant-loop-j l = its.Copying l.image l.at l.initial.list l.list l.j
