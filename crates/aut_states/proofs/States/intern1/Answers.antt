use Rattle.refusal.proofs.Passed.{passed}
use Rattle.aut_states.specs.Clauses.{limits_of, states_of}
use Rattle.aut_states.proofs.Intern as intern
use Rattle.aut_states.proofs.Scan as scan
use Rattle.aut_states.proofs.States.intern1.Goals as goal

pub find-requires : goal.find-requires
find-requires c = (c.requires.fits, scan.from_1 c.requires)

pub returns-in-Some-clause-gives : goal.returns-in-Some-clause-gives
returns-in-Some-clause-gives c =
    intern.found1 (limits_of c.args.limits) (states_of c.args.self.now) c.args.kind c.args.x c.in-Some.ensures

pub returns-in_err-e-clause-gives : goal.returns-in_err-e-clause-gives
returns-in_err-e-clause-gives c =
    intern.deep1 (limits_of c.args.limits) (states_of c.args.self.now) c.args.kind c.args.x c.in_default.ensures c.nest_of.ensures c.in_err-e.ensures (passed c.from_residual.ensures)

pub returns-clause-gives : goal.returns-clause-gives
returns-clause-gives c =
    intern.new1 (limits_of c.args.limits) (states_of c.args.self.now) c.args.kind c.args.x c.in_default.ensures c.nest_of.ensures c.in_ok-e.ensures c.put.ensures.gives
