use Rattle.std.proofs.Common.{◌+◌, ◌*◌, ◌<◌, length, unwrap_or, ap, ◌∙◌, rules}
use Rattle.std.proofs.lemmas.Iterator.{YieldsList-from_slice, YieldsList-from_map}
use Rattle.std.proofs.lemmas.Iterator.Consumers.{reduce_from_yields_List}
use Rattle.std.proofs.lemmas.List.Folds.{max_of_map}
use Rattle.aut_steps.specs.Tables.{nest}
use Rattle.aut_states.proofs.Scan as scan
use Rattle.aut_states.proofs.States.nest_list.Goals as goal

pub max-requires-clause-can : goal.max-requires-clause-can
max-requires-clause-can c = (tt, scan.served (λ x. 12 * x + 11 < length c.args.self.now.words.now) (cc) c.map.ensures.closure c.requires (λ x q r. search rules) (λ x has. search rules))

pub returns : goal.returns
returns c =
    let st = c.args.self.now.words.now in
    let xs = c.args.list.now in
    c.unwrap_or.ensures
    ∙ ap (λ o. unwrap_or o 0) (reduce_from_yields_List _ c.map.result _ c.max.ensures.ran (YieldsList-from_map _ (nest st) (YieldsList-from_slice xs cc) c.map.ensures.closure (λ x r q k. search rules)))
    ∙ max_of_map (nest st) xs ∙ scan.nest_fold st 0 xs
