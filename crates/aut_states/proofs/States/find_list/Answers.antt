use Rattle.std.proofs.Common.{rules}
use Rattle.std.proofs.lemmas.Iterator.{first_from_Range}
use Rattle.aut_states.proofs.Scan as scan
use Rattle.aut_states.proofs.States.find_list.Goals as goal

pub returns : goal.returns
returns c = scan.first c.requires.2 c.find.result (first_from_Range _ _ _ c.find.result _ _ c.find.ensures.ran (λ x q k. search rules) (λ x q k. search rules))
