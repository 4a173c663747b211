use Rattle.std.proofs.Common.{rules, tests}
use lib.Dec.{eqb}
use Rattle.std.proofs.lemmas.Iterator.{YieldsList-from_slice}
use Rattle.std.proofs.lemmas.Iterator.Search.{position_from_yields_List}
use Rattle.book_reader.proofs.Finding.{finds}
use Rattle.book_reader.proofs.find.Goals as goal

pub returns : goal.returns
returns c =
    let at = position_from_yields_List (λ x. eqb x c.args.byte) _ _ c.position.result c.position.ensures.ran (YieldsList-from_slice c.args.text.now cc) (λ x b q k. (search (rules, tests), search (rules, tests))) in
    finds c.args.byte c.args.text.now c.position.result at
