use native.Mathlib.Omega.{arith}
use Rattle.cache.proofs.Cache.{notes_refl}
use Rattle.spp.proofs.Calls.{stopped}
use Rattle.spp_sequence.proofs.Calls.{star_done}
use Rattle.spp_sequence.proofs.Closing as closing
use Rattle.spp_sequence.proofs.+star.Goals as goal

pub returns-in-Some-clause-answer : goal.returns-in-Some-clause-answer
returns-in-Some-clause-answer t c = record { gives = star_done c.args.store.now.fields c.args.depth c.args.x.0 _ _ c.in-Some.ensures; notes = notes_refl }

pub returns-in-Some-look-clause-answer : goal.returns-in-Some-look-clause-answer
returns-in-Some-look-clause-answer t c = record { gives = closing.hit c.requires c.in_default.ensures c.in-Some-look.ensures; notes = notes_refl }

pub get-p-requires : goal.get-p-requires
get-p-requires t c = closing.in_x c.requires c.in_default.ensures

pub overflow_sub-below : goal.overflow_sub-below
overflow_sub-below t c = omega (arith, closing.up c.requires c.in_default.ensures)

pub star-requires : goal.star-requires
star-requires t c =
    let q = closing.goes_down c.args.store.now c.requires c.in_default.ensures c.get-p.ensures in
    (closing.falls q c.decreases, closing.ready_1 q)

pub returns-in_err-e-clause-answer : goal.returns-in_err-e-clause-answer
returns-in_err-e-clause-answer t c =
    let q = closing.goes_down c.args.store.now c.requires c.in_default.ensures c.get-p.ensures in
    stopped c.from_residual.ensures.0 (closing.lost_1 q c.in_err-e.ensures.answer)

pub through-requires : goal.through-requires
through-requires t c =
    let q = closing.goes_down c.args.store.now c.requires c.in_default.ensures c.get-p.ensures in
    closing.ready_2 q c.star.ensures.same_store c.in_ok-e.ensures.answer

pub returns-in_err-be-clause-answer : goal.returns-in_err-be-clause-answer
returns-in_err-be-clause-answer t c =
    let q = closing.goes_down c.args.store.now c.requires c.in_default.ensures c.get-p.ensures in
    stopped c.from_residual-in_err-be.ensures.0 (closing.lost_2 q c.star.ensures.same_store c.in_ok-e.ensures.answer c.in_err-be.ensures.answer)

pub star-requires-2 : goal.star-requires-2
star-requires-2 t c =
    let q = closing.goes_down c.args.store.now c.requires c.in_default.ensures c.get-p.ensures in
    (closing.falls q c.decreases, closing.ready_3 q c.star.ensures.same_store c.in_ok-e.ensures.answer c.through.ensures.same_store c.in_ok-be.ensures.answer)

pub returns-in_err-x00-clause-answer : goal.returns-in_err-x00-clause-answer
returns-in_err-x00-clause-answer t c =
    let q = closing.goes_down c.args.store.now c.requires c.in_default.ensures c.get-p.ensures in
    stopped c.from_residual-in_err-x00.ensures.0 (closing.lost_3 q c.star.ensures.same_store c.in_ok-e.ensures.answer c.through.ensures.same_store c.in_ok-be.ensures.answer c.in_err-x00.ensures.answer)

pub around-requires : goal.around-requires
around-requires t c =
    let q = closing.goes_down c.args.store.now c.requires c.in_default.ensures c.get-p.ensures in
    closing.ready_4 q c.star.ensures.same_store c.in_ok-e.ensures.answer c.through.ensures.same_store c.in_ok-be.ensures.answer c.star-2.ensures.same_store c.in_ok-x00.ensures.answer

pub returns-in_err-h-clause-answer : goal.returns-in_err-h-clause-answer
returns-in_err-h-clause-answer t c =
    let q = closing.goes_down c.args.store.now c.requires c.in_default.ensures c.get-p.ensures in
    stopped c.from_residual-in_err-h.ensures.0 (closing.lost_4 q c.star.ensures.same_store c.in_ok-e.ensures.answer c.through.ensures.same_store c.in_ok-be.ensures.answer c.star-2.ensures.same_store c.in_ok-x00.ensures.answer c.in_err-h.ensures.answer)

pub returns-clause-answer : goal.returns-clause-answer
returns-clause-answer t c =
    let q = closing.goes_down c.args.store.now c.requires c.in_default.ensures c.get-p.ensures in
    let s = closing.made q c.star.ensures.same_store c.in_ok-e.ensures.answer c.through.ensures.same_store c.in_ok-be.ensures.answer c.star-2.ensures.same_store c.in_ok-x00.ensures.answer c.in_ok-h.ensures.answer in
    record { gives = s.left; notes = closing.noted q s c.note.ensures }
