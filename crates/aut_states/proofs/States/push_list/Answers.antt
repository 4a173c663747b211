use native.Mathlib.Omega.{arith}
use Rattle.refusal.proofs.Passed.{passed}
use Rattle.aut_states.specs.Clauses.{states_of, members_of}
use Rattle.aut_states.proofs.Intern as intern
use Rattle.aut_states.proofs.States.push_list.Goals as goal

pub returns-in_err-m-clause-gives : goal.returns-in_err-m-clause-gives
returns-in_err-m-clause-gives c =
    rw (passed c.from_residual.ensures)
    (intern.unplaced c.args.kind c.args.nest c.args.list.now (states_of c.args.self.now) (members_of c.args.members.now) c.in_err-m.ensures.gives)

pub overflow_cast-list : goal.overflow_cast-list
overflow_cast-list c = omega (arith, intern.fits c.args.list.now (members_of c.args.members.now) c.in_ok-m.ensures.gives)

pub returns-clause-gives : goal.returns-clause-gives
returns-clause-gives c =
    intern.added c.args.kind c.args.nest c.args.list.now (states_of c.args.self.now) (members_of c.args.members.now) _ _ c.in_ok-m.ensures.gives c.put.ensures.gives
