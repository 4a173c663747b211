use Rattle.aut_states.specs.Clauses.{states_of}
use Rattle.aut_steps.specs.Tables.{words}
use Rattle.aut_union.proofs.Gather.{adds_none, adds_refused, adds_state, none_last, a_last}
use Rattle.aut_union.proofs.add_last.Goals as goal

pub returns-in_default-clause-gives : goal.returns-in_default-clause-gives
returns-in_default-clause-gives c =
    λ N others. adds_none (none_last c.args.relation N (states_of c.args.states.now) (words c.args.scratch.now c.args.at c.args.k) others c.in_default.is)

pub returns-in_err-scratch-clause-gives : goal.returns-in_err-scratch-clause-gives
returns-in_err-scratch-clause-gives c =
    λ N others. adds_refused (a_last c.args.relation N (states_of c.args.states.now) (words c.args.scratch.now c.args.at c.args.k) others c.in-Some.is) _ c.from_residual.ensures c.in_err-scratch.ensures.gives

pub returns-clause-gives : goal.returns-clause-gives
returns-clause-gives c =
    λ N others. adds_state (a_last c.args.relation N (states_of c.args.states.now) (words c.args.scratch.now c.args.at c.args.k) others c.in-Some.is) c.requires.room c.in_ok-scratch.ensures.gives
