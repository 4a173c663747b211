use Rattle.aut_st_steps.specs.Edges.{edges}
use Rattle.aut_st_steps.specs.ListSpec.{ListAt}
use Rattle.aut_st_steps.specs.EachSteps as M
use Rattle.aut_states.specs.Clauses.{limits_of}
use Rattle.aut_st_insert.specs.Clauses.{RESULT}
use Rattle.aut_st_stage.proofs.Turns.{Turning}
use Rattle.aut_st_each.specs.Clauses.{each_of}
use Rattle.aut_st_each.proofs.Turns.{each_all}
use Rattle.aut_st_each.proofs.insert_each.Given as goal

abbrev pub invariant-loop-i : goal.invariant-loop-i
invariant-loop-i l =
    Turning l.config (ListAt l.config.fields (limits_of l.config.limits)) (M.insert_made l.config.fields (limits_of l.config.limits) (each_of l.each)) (each_all l.config (each_of l.each))
    l.source l.initial.aut (edges l.initial.aut.scratch.now RESULT l.m) l.aut (edges l.aut.scratch.now RESULT l.n) l.i
