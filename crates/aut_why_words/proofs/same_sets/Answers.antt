use Rattle.std.proofs.Common.{rules, refl, sym, ◌∙◌}
use native.Mathlib.Omega.{arith}
use Rattle.std.proofs.lemmas.Iterator.{YieldsList-from_range}
use Rattle.std.proofs.lemmas.Iterator.Search.{all_from_yields_List}
use Rattle.aut_why_words.proofs.Loops as loops
use Rattle.aut_why_words.proofs.same_sets.Goals as goal

pub returns : goal.returns
returns c =
    let st = c.args.aut.now.states.words.now in
    let p = c.args.aut.now.pending.now in
    loops.same_each st p 0 c.args.n
    ∙ sym (all_from_yields_List (loops.equal_at st p) _ _ c.all.result c.all.ensures.ran (YieldsList-from_range 0 c.args.n c.args.n refl (omega arith)) (λ x b q k. (search rules, search (rules, loops.equal_told))))
