use Rattle.std.proofs.Common.{rules, refl, ◌+◌}
use native.Mathlib.Omega.{arith}
use Rattle.std.proofs.lemmas.Iterator.{YieldsList-from_range, serves_from_Range}
use Rattle.std.proofs.lemmas.Iterator.Search.{any_from_yields_List}
use Rattle.aut_live_words.proofs.Words.{listed_inside}
use Rattle.aut_why_words.proofs.Found.{find_listed, got_target}
use Rattle.aut_why_marks.proofs.Loops as loops
use Rattle.aut_why_marks.proofs.changed.Goals as goal

pub stored_list-list-requires : goal.stored_list-list-requires
stored_list-list-requires c = find_listed c.requires.listed

pub overflow_add-list : goal.overflow_add-list
overflow_add-list c = omega (arith, listed_inside c.requires.listed c.stored_list-list.ensures)

pub any-requires-clause-callable : goal.any-requires-clause-callable
any-requires-clause-callable c =
    let inside = listed_inside c.requires.listed c.stored_list-list.ensures in
    serves_from_Range (λ i q r. search rules) (λ i l u. (
      λ κ r n e m b t s. omega (arith, inside, u),
      λ κ r n e m b t get s. omega (arith, got_target get.ensures, loops.look_target c.requires c.stored_list-list.ensures i l u),
    ))

pub returns : goal.returns
returns c =
    let list = c.stored_list-list.result in
    loops.look_post c.requires c.stored_list-list.ensures
    (any_from_yields_List (loops.led_at c.args.aut.now.states.words.now c.args.aut.now.transitions.words.now) _ _ c.any.result c.any.ensures.ran (YieldsList-from_range list.start (list.start + list.count) list.count refl (omega arith))
    (λ i b q k. (search rules, search (rules, loops.led_told))))
