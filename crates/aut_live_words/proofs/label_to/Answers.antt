use native.Mathlib.Omega.{arith}
use Rattle.aut_live_words.proofs.Words as words
use Rattle.aut_live_words.proofs.label_to.Goals as goal

pub words-requires : goal.words-requires
words-requires c = words.listed_inside c.requires c.stored_list-list.ensures

pub returns-in_err-i : goal.returns-in_err-i
returns-in_err-i c = rw c.from_residual.ensures (words.label_without c.requires c.stored_list-list.ensures _ c.words.ensures c.in_err-i.ensures)

pub get-requires : goal.get-requires
get-requires c = omega (arith, words.listed_inside c.requires c.stored_list-list.ensures, words.label_inside c.requires c.stored_list-list.ensures _ c.words.ensures c.in_ok-i.ensures)

pub returns : goal.returns
returns c = words.label_some c.requires c.stored_list-list.ensures _ c.words.ensures c.in_ok-i.ensures c.get.ensures
