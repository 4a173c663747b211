use Rattle.aut_states.specs.Clauses.{states_of}
use Rattle.aut_states.proofs.Intern as intern
use Rattle.aut_states.proofs.States.intern0.Goals as goal

pub returns-in-Some-clause-gives : goal.returns-in-Some-clause-gives
returns-in-Some-clause-gives c = intern.found0 (states_of c.args.self.now) c.args.kind c.args.x c.in-Some.ensures

pub returns-clause-gives : goal.returns-clause-gives
returns-clause-gives c = intern.new0 (states_of c.args.self.now) c.args.kind c.args.x c.in_default.ensures c.put.ensures.gives
