use native.Mathlib.Omega.{arith}
use Rattle.cache.proofs.Cache.{notes_refl}
use Rattle.spp.specs.Clauses.{quad_of}
use Rattle.spp.proofs.Calls.{stopped}
use Rattle.spp.proofs.Quartet as quartet
use Rattle.spp_sequence.proofs.Calls.{sequence_done, row_stopped}
use Rattle.spp_sequence.proofs.Product as product
use Rattle.spp_sequence.proofs.+row_sequence.Goals as goal

pub row-returns-in_err-x00-clause-answer : goal.row-returns-in_err-x00-clause-answer
row-returns-in_err-x00-clause-answer t c =
    let q = product.row_calls c.args.store.now (quad_of c.args.q) c.requires in
    row_stopped c.from_residual.ensures.0 (quartet.lost_1 q c.in_err-x00.ensures.answer)

pub row-sequence-requires-2 : goal.row-sequence-requires-2
row-sequence-requires-2 t c =
    let q = product.row_calls c.args.store.now (quad_of c.args.q) c.requires in
    (omega (arith, c.decreases), quartet.ready_2 q c.sequence.ensures.same_store c.in_ok-x00.ensures.answer)

pub row-returns-in_err-x01-clause-answer : goal.row-returns-in_err-x01-clause-answer
row-returns-in_err-x01-clause-answer t c =
    let q = product.row_calls c.args.store.now (quad_of c.args.q) c.requires in
    row_stopped c.from_residual-in_err-x01.ensures.0 (quartet.lost_2 q c.sequence.ensures.same_store c.in_ok-x00.ensures.answer c.in_err-x01.ensures.answer)

pub row-sequence-requires-3 : goal.row-sequence-requires-3
row-sequence-requires-3 t c =
    let q = product.row_calls c.args.store.now (quad_of c.args.q) c.requires in
    (omega (arith, c.decreases), quartet.ready_3 q c.sequence.ensures.same_store c.in_ok-x00.ensures.answer c.sequence-2.ensures.same_store c.in_ok-x01.ensures.answer)

pub row-returns-in_err-x10-clause-answer : goal.row-returns-in_err-x10-clause-answer
row-returns-in_err-x10-clause-answer t c =
    let q = product.row_calls c.args.store.now (quad_of c.args.q) c.requires in
    row_stopped c.from_residual-in_err-x10.ensures.0 (quartet.lost_3 q c.sequence.ensures.same_store c.in_ok-x00.ensures.answer c.sequence-2.ensures.same_store c.in_ok-x01.ensures.answer c.in_err-x10.ensures.answer)

pub row-sequence-requires-4 : goal.row-sequence-requires-4
row-sequence-requires-4 t c =
    let q = product.row_calls c.args.store.now (quad_of c.args.q) c.requires in
    (omega (arith, c.decreases), quartet.ready_4 q c.sequence.ensures.same_store c.in_ok-x00.ensures.answer c.sequence-2.ensures.same_store c.in_ok-x01.ensures.answer c.sequence-3.ensures.same_store c.in_ok-x10.ensures.answer)

pub row-returns-in_err-x11-clause-answer : goal.row-returns-in_err-x11-clause-answer
row-returns-in_err-x11-clause-answer t c =
    let q = product.row_calls c.args.store.now (quad_of c.args.q) c.requires in
    row_stopped c.from_residual-in_err-x11.ensures.0 (quartet.lost_4 q c.sequence.ensures.same_store c.in_ok-x00.ensures.answer c.sequence-2.ensures.same_store c.in_ok-x01.ensures.answer c.sequence-3.ensures.same_store c.in_ok-x10.ensures.answer c.in_err-x11.ensures.answer)

pub row-returns-clause-answer : goal.row-returns-clause-answer
row-returns-clause-answer t c =
    let q = product.row_calls c.args.store.now (quad_of c.args.q) c.requires in
    let s = quartet.last q c.sequence.ensures.same_store c.in_ok-x00.ensures.answer c.sequence-2.ensures.same_store c.in_ok-x01.ensures.answer c.sequence-3.ensures.same_store c.in_ok-x10.ensures.answer c.sequence-4.ensures.same_store c.in_ok-x11.ensures.answer in
    record { gives = s.left; notes = s.notes }

pub sequence-returns-in-Some-clause-answer : goal.sequence-returns-in-Some-clause-answer
sequence-returns-in-Some-clause-answer t c =
    record { gives = sequence_done c.args.store.now.fields c.args.depth c.args.a.0 c.args.b.0 _ _ c.in-Some.ensures; notes = notes_refl }

pub sequence-returns-in-Some-look-clause-answer : goal.sequence-returns-in-Some-look-clause-answer
sequence-returns-in-Some-look-clause-answer t c = record { gives = product.hit c.requires c.in_default.ensures c.in-Some-look.ensures; notes = notes_refl }

pub sequence-get-p-requires : goal.sequence-get-p-requires
sequence-get-p-requires t c = product.in_a c.requires c.in_default.ensures

pub sequence-get-q-requires : goal.sequence-get-q-requires
sequence-get-q-requires t c = product.in_b c.requires c.in_default.ensures

pub sequence-overflow_sub-below : goal.sequence-overflow_sub-below
sequence-overflow_sub-below t c = omega (arith, product.up c.requires c.in_default.ensures)

pub sequence-row-requires : goal.sequence-row-requires
sequence-row-requires t c =
    let q = product.goes_down c.args.store.now c.requires c.in_default.ensures c.get-p.ensures c.get-q.ensures in
    (product.falls q c.decreases, product.ready_1 q)

pub sequence-returns-in_err-r-clause-answer : goal.sequence-returns-in_err-r-clause-answer
sequence-returns-in_err-r-clause-answer t c =
    let q = product.goes_down c.args.store.now c.requires c.in_default.ensures c.get-p.ensures c.get-q.ensures in
    stopped c.from_residual.ensures.0 (product.lost_1 q c.in_err-r.ensures.answer)

pub sequence-row-requires-2 : goal.sequence-row-requires-2
sequence-row-requires-2 t c =
    let q = product.goes_down c.args.store.now c.requires c.in_default.ensures c.get-p.ensures c.get-q.ensures in
    (product.falls q c.decreases, product.ready_2 q c.row.ensures.same_store c.in_ok-r.ensures.answer)

pub sequence-returns-in_err-s-clause-answer : goal.sequence-returns-in_err-s-clause-answer
sequence-returns-in_err-s-clause-answer t c =
    let q = product.goes_down c.args.store.now c.requires c.in_default.ensures c.get-p.ensures c.get-q.ensures in
    stopped c.from_residual-in_err-s.ensures.0 (product.lost_2 q c.row.ensures.same_store c.in_ok-r.ensures.answer c.in_err-s.ensures.answer)

pub sequence-sums-requires : goal.sequence-sums-requires
sequence-sums-requires t c =
    let q = product.goes_down c.args.store.now c.requires c.in_default.ensures c.get-p.ensures c.get-q.ensures in
    product.ready_3 q c.row.ensures.same_store c.in_ok-r.ensures.answer c.row-2.ensures.same_store c.in_ok-s.ensures.answer

pub sequence-returns-in_err-h-clause-answer : goal.sequence-returns-in_err-h-clause-answer
sequence-returns-in_err-h-clause-answer t c =
    let q = product.goes_down c.args.store.now c.requires c.in_default.ensures c.get-p.ensures c.get-q.ensures in
    stopped c.from_residual-in_err-h.ensures.0 (product.lost_3 q c.row.ensures.same_store c.in_ok-r.ensures.answer c.row-2.ensures.same_store c.in_ok-s.ensures.answer c.in_err-h.ensures.answer)

pub sequence-returns-clause-answer : goal.sequence-returns-clause-answer
sequence-returns-clause-answer t c =
    let q = product.goes_down c.args.store.now c.requires c.in_default.ensures c.get-p.ensures c.get-q.ensures in
    let s = product.made q c.row.ensures.same_store c.in_ok-r.ensures.answer c.row-2.ensures.same_store c.in_ok-s.ensures.answer c.in_ok-h.ensures.answer in
    record { gives = s.left; notes = product.noted q s c.note.ensures }
