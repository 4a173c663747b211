use native.Mathlib.Omega.{arith}
use Rattle.sp_steps.proofs.Laws.{wf_down}
use Rattle.aut_why_least.proofs.first_of.Goals as goal

pub least-requires : goal.least-requires
least-requires c = rw (c.view.ensures.nodes, c.view.ensures.count) (record { deep = c.requires.few; wf = wf_down c.requires.wf (omega arith); at_s = c.requires.at_a })

pub returns : goal.returns
returns c = rw c.view.ensures.nodes at c.least.ensures
