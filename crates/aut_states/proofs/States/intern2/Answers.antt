use Rattle.refusal.proofs.Passed.{passed}
use Rattle.aut_states.specs.Clauses.{limits_of, states_of}
use Rattle.aut_states.proofs.Intern as intern
use Rattle.aut_states.proofs.Scan as scan
use Rattle.aut_states.proofs.States.intern2.Goals as goal

pub find-requires : goal.find-requires
find-requires c = (c.requires.fits, scan.from_2 c.requires c.max.ensures)

pub returns-in-Some-clause-gives : goal.returns-in-Some-clause-gives
returns-in-Some-clause-gives c =
    intern.found2 (limits_of c.args.limits) (states_of c.args.self.now) c.args.kind c.args.x c.args.y c.in-Some.ensures

pub returns-in_err-e-clause-gives : goal.returns-in_err-e-clause-gives
returns-in_err-e-clause-gives c =
    intern.deep2 (limits_of c.args.limits) (states_of c.args.self.now) c.args.kind c.args.x c.args.y c.in_default.ensures c.nest_of.ensures c.nest_of-2.ensures c.max-2.ensures c.in_err-e.ensures (passed c.from_residual.ensures)

pub returns-clause-gives : goal.returns-clause-gives
returns-clause-gives c =
    intern.new2 (limits_of c.args.limits) (states_of c.args.self.now) c.args.kind c.args.x c.args.y c.in_default.ensures c.nest_of.ensures c.nest_of-2.ensures c.max-2.ensures c.in_ok-e.ensures c.put.ensures.gives
