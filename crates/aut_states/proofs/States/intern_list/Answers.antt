use Rattle.refusal.proofs.Passed.{passed}
use Rattle.aut_states.specs.Clauses.{limits_of, exprs_of}
use Rattle.aut_states.proofs.Intern as intern
use Rattle.aut_states.proofs.Scan as scan
use Rattle.aut_states.proofs.States.intern_list.Goals as goal

pub find_list-requires : goal.find_list-requires
find_list-requires c = (c.requires.push.fits, c.requires.lists, scan.from_list c.requires c.above_list.ensures)

pub returns-in-Some-clause-gives : goal.returns-in-Some-clause-gives
returns-in-Some-clause-gives c =
    intern.found_l (limits_of c.args.limits) (exprs_of c.args.self.now c.args.members.now) c.args.kind c.args.list.now c.in-Some.ensures

pub nest_list-requires : goal.nest_list-requires
nest_list-requires c = scan.inside c.args.list.now c.requires.push.fits c.requires.has

pub returns-in_err-e-clause-gives : goal.returns-in_err-e-clause-gives
returns-in_err-e-clause-gives c =
    intern.deep_l (limits_of c.args.limits) (exprs_of c.args.self.now c.args.members.now) c.args.kind c.args.list.now c.in_default.ensures c.nest_list.ensures c.in_err-e.ensures (passed c.from_residual.ensures)

pub returns-clause-gives : goal.returns-clause-gives
returns-clause-gives c =
    intern.new_l (limits_of c.args.limits) (exprs_of c.args.self.now c.args.members.now) c.args.kind c.args.list.now c.in_default.ensures c.nest_list.ensures c.in_ok-e.ensures c.push_list.ensures.gives
