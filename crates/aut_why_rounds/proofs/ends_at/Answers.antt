use Rattle.aut_query_calls.proofs.Works.{keeps_beside}
use Rattle.aut_why_rounds.proofs.Turns as turns
use Rattle.aut_why_rounds.proofs.ends_at.Goals as goal

pub epsilon_at-e-requires : goal.epsilon_at-e-requires
epsilon_at-e-requires c = (turns.ends_there c.requires.visited, turns.ends_known c.requires.visited)

pub bwd-requires : goal.bwd-requires
bwd-requires c = turns.ends_asks c.requires.visited c.epsilon_at-e.ensures

pub returns-clause-gives : goal.returns-clause-gives
returns-clause-gives c = record { gives = λ mem V. turns.ends_done V c.epsilon_at-e.ensures (keeps_beside mem c.bwd.ensures.keeps) c.bwd.ensures.gives }
