use Rattle.std.proofs.Common.{◌∙◌, rules, tests}
use Rattle.std.proofs.lemmas.Iterator.{YieldsList-from_slice}
use Rattle.std.proofs.lemmas.Iterator.Search.{find_from_yields_List}
use Rattle.book_reader.proofs.Finding.{mapped_is, has_name, named_is}
use Rattle.book_reader.proofs.named.Goals as goal

pub returns : goal.returns
returns g c =
    let word = c.args.word.now in
    let table = c.args.table.now in
    let at = find_from_yields_List (has_name word) _ _ c.find.result c.find.ensures.ran (YieldsList-from_slice table c.iter.ensures.rest) (λ x b q k. (search (rules, tests), search (rules, tests))) in
    mapped_is (λ x. x.now.1) c.find.result c.map.result c.map.ensures.cases (λ x y p. search rules) ∙ named_is word table c.find.result at
