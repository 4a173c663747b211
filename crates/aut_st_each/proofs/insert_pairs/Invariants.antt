use Rattle.aut_st_steps.specs.Edges.{edges}
use Rattle.aut_st_steps.specs.ListSpec.{ListAt}
use Rattle.aut_st_steps.specs.EachSteps as M
use Rattle.aut_states.specs.Clauses.{limits_of}
use Rattle.aut_st_insert.specs.Clauses.{RESULT}
use Rattle.aut_st_stage.proofs.Turns.{Turning, source_in}
use Rattle.aut_st_each.proofs.Turns.{each_all, pairs_all}
use Rattle.aut_st_each.proofs.insert_pairs.Given as goal

abbrev pub invariant-loop-i : goal.invariant-loop-i
invariant-loop-i l =
    Turning l.config (ListAt l.config.fields (limits_of l.config.limits)) (λ e r. each_all l.config (M.meet e) (source_in l.second l.initial.aut) r) (pairs_all l.config (source_in l.second l.initial.aut))
    l.first l.initial.aut (edges l.initial.aut.scratch.now RESULT l.m) l.aut (edges l.aut.scratch.now RESULT l.n) l.i
