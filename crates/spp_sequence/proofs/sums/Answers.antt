use Rattle.spp.specs.Clauses.{quad_of}
use Rattle.spp.proofs.Calls.{stopped}
use Rattle.spp.proofs.Quartet as quartet
use Rattle.spp_sequence.proofs.Product.{sums_calls}
use Rattle.spp_sequence.proofs.sums.Goals as goal

pub returns-in_err-x00-clause-answer : goal.returns-in_err-x00-clause-answer
returns-in_err-x00-clause-answer c =
    let q = sums_calls c.args.store.now (quad_of c.args.r) (quad_of c.args.s) c.requires in
    stopped c.from_residual.ensures.0 (quartet.lost_1 q c.in_err-x00.ensures.answer)

pub union-requires-2 : goal.union-requires-2
union-requires-2 c =
    let q = sums_calls c.args.store.now (quad_of c.args.r) (quad_of c.args.s) c.requires in
    quartet.ready_2 q c.union.ensures.same_store c.in_ok-x00.ensures.answer

pub returns-in_err-x01-clause-answer : goal.returns-in_err-x01-clause-answer
returns-in_err-x01-clause-answer c =
    let q = sums_calls c.args.store.now (quad_of c.args.r) (quad_of c.args.s) c.requires in
    stopped c.from_residual-in_err-x01.ensures.0 (quartet.lost_2 q c.union.ensures.same_store c.in_ok-x00.ensures.answer c.in_err-x01.ensures.answer)

pub union-requires-3 : goal.union-requires-3
union-requires-3 c =
    let q = sums_calls c.args.store.now (quad_of c.args.r) (quad_of c.args.s) c.requires in
    quartet.ready_3 q c.union.ensures.same_store c.in_ok-x00.ensures.answer c.union-2.ensures.same_store c.in_ok-x01.ensures.answer

pub returns-in_err-x10-clause-answer : goal.returns-in_err-x10-clause-answer
returns-in_err-x10-clause-answer c =
    let q = sums_calls c.args.store.now (quad_of c.args.r) (quad_of c.args.s) c.requires in
    stopped c.from_residual-in_err-x10.ensures.0 (quartet.lost_3 q c.union.ensures.same_store c.in_ok-x00.ensures.answer c.union-2.ensures.same_store c.in_ok-x01.ensures.answer c.in_err-x10.ensures.answer)

pub union-requires-4 : goal.union-requires-4
union-requires-4 c =
    let q = sums_calls c.args.store.now (quad_of c.args.r) (quad_of c.args.s) c.requires in
    quartet.ready_4 q c.union.ensures.same_store c.in_ok-x00.ensures.answer c.union-2.ensures.same_store c.in_ok-x01.ensures.answer c.union-3.ensures.same_store c.in_ok-x10.ensures.answer

pub returns-in_err-x11-clause-answer : goal.returns-in_err-x11-clause-answer
returns-in_err-x11-clause-answer c =
    let q = sums_calls c.args.store.now (quad_of c.args.r) (quad_of c.args.s) c.requires in
    stopped c.from_residual-in_err-x11.ensures.0 (quartet.lost_4 q c.union.ensures.same_store c.in_ok-x00.ensures.answer c.union-2.ensures.same_store c.in_ok-x01.ensures.answer c.union-3.ensures.same_store c.in_ok-x10.ensures.answer c.in_err-x11.ensures.answer)

pub mk-requires : goal.mk-requires
mk-requires c =
    let q = sums_calls c.args.store.now (quad_of c.args.r) (quad_of c.args.s) c.requires in
    quartet.mk_ready q c.union.ensures.same_store c.in_ok-x00.ensures.answer c.union-2.ensures.same_store c.in_ok-x01.ensures.answer c.union-3.ensures.same_store c.in_ok-x10.ensures.answer c.union-4.ensures.same_store c.in_ok-x11.ensures.answer

pub returns-clause-answer : goal.returns-clause-answer
returns-clause-answer c =
    let q = sums_calls c.args.store.now (quad_of c.args.r) (quad_of c.args.s) c.requires in
    record {
      gives = quartet.made q c.union.ensures.same_store c.in_ok-x00.ensures.answer c.union-2.ensures.same_store c.in_ok-x01.ensures.answer c.union-3.ensures.same_store c.in_ok-x10.ensures.answer c.union-4.ensures.same_store c.in_ok-x11.ensures.answer c.mk.ensures.gives;
      notes = quartet.ended q c.union.ensures.same_store c.in_ok-x00.ensures.answer c.union-2.ensures.same_store c.in_ok-x01.ensures.answer c.union-3.ensures.same_store c.in_ok-x10.ensures.answer c.union-4.ensures.same_store c.in_ok-x11.ensures.answer c.requires.low _ _ c.mk.ensures.gives;
    }
