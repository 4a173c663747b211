use Rattle.spp.proofs.Calls.{stopped}
use Rattle.spp_sequence.proofs.Closing as closing
use Rattle.spp_sequence.proofs.around.Goals as goal

pub returns-in_err-x01-clause-answer : goal.returns-in_err-x01-clause-answer
returns-in_err-x01-clause-answer c =
    stopped c.from_residual.ensures.0 (closing.around_lost_1 c.args.store.now c.requires c.in_err-x01.ensures.answer)

pub sequence-requires-2 : goal.sequence-requires-2
sequence-requires-2 c = closing.around_ready_2 c.args.store.now c.requires c.sequence.ensures.same_store c.in_ok-x01.ensures.answer

pub returns-in_err-cx-clause-answer : goal.returns-in_err-cx-clause-answer
returns-in_err-cx-clause-answer c =
    stopped c.from_residual-in_err-cx.ensures.0 (closing.around_lost_2 c.args.store.now c.requires c.sequence.ensures.same_store c.in_ok-x01.ensures.answer c.in_err-cx.ensures.answer)

pub sequence-requires-3 : goal.sequence-requires-3
sequence-requires-3 c = closing.around_ready_3 c.args.store.now c.requires c.sequence.ensures.same_store c.in_ok-x01.ensures.answer c.sequence-2.ensures.same_store c.in_ok-cx.ensures.answer

pub returns-in_err-x10-clause-answer : goal.returns-in_err-x10-clause-answer
returns-in_err-x10-clause-answer c =
    stopped c.from_residual-in_err-x10.ensures.0 (closing.around_lost_3 c.args.store.now c.requires c.sequence.ensures.same_store c.in_ok-x01.ensures.answer c.sequence-2.ensures.same_store c.in_ok-cx.ensures.answer c.in_err-x10.ensures.answer)

pub sequence-requires-4 : goal.sequence-requires-4
sequence-requires-4 c = closing.around_ready_4 c.args.store.now c.requires c.sequence.ensures.same_store c.in_ok-x01.ensures.answer c.sequence-2.ensures.same_store c.in_ok-cx.ensures.answer c.sequence-3.ensures.same_store c.in_ok-x10.ensures.answer

pub returns-in_err-xbe-clause-answer : goal.returns-in_err-xbe-clause-answer
returns-in_err-xbe-clause-answer c =
    stopped c.from_residual-in_err-xbe.ensures.0 (closing.around_lost_4 c.args.store.now c.requires c.sequence.ensures.same_store c.in_ok-x01.ensures.answer c.sequence-2.ensures.same_store c.in_ok-cx.ensures.answer c.sequence-3.ensures.same_store c.in_ok-x10.ensures.answer c.in_err-xbe.ensures.answer)

pub union-requires : goal.union-requires
union-requires c = closing.around_ready_5 c.args.store.now c.requires c.sequence.ensures.same_store c.in_ok-x01.ensures.answer c.sequence-2.ensures.same_store c.in_ok-cx.ensures.answer c.sequence-3.ensures.same_store c.in_ok-x10.ensures.answer c.sequence-4.ensures.same_store c.in_ok-xbe.ensures.answer

pub returns-in_err-x11-clause-answer : goal.returns-in_err-x11-clause-answer
returns-in_err-x11-clause-answer c =
    stopped c.from_residual-in_err-x11.ensures.0 (closing.around_lost_5 c.args.store.now c.requires c.sequence.ensures.same_store c.in_ok-x01.ensures.answer c.sequence-2.ensures.same_store c.in_ok-cx.ensures.answer c.sequence-3.ensures.same_store c.in_ok-x10.ensures.answer c.sequence-4.ensures.same_store c.in_ok-xbe.ensures.answer c.in_err-x11.ensures.answer)

pub mk-requires : goal.mk-requires
mk-requires c = closing.around_fits c.args.store.now c.requires c.sequence.ensures.same_store c.in_ok-x01.ensures.answer c.sequence-2.ensures.same_store c.in_ok-cx.ensures.answer c.sequence-3.ensures.same_store c.in_ok-x10.ensures.answer c.sequence-4.ensures.same_store c.in_ok-xbe.ensures.answer c.union.ensures.same_store c.in_ok-x11.ensures.answer

pub returns-clause-answer : goal.returns-clause-answer
returns-clause-answer c = record {
  gives = closing.around_made c.args.store.now c.requires c.sequence.ensures.same_store c.in_ok-x01.ensures.answer c.sequence-2.ensures.same_store c.in_ok-cx.ensures.answer c.sequence-3.ensures.same_store c.in_ok-x10.ensures.answer c.sequence-4.ensures.same_store c.in_ok-xbe.ensures.answer c.union.ensures.same_store c.in_ok-x11.ensures.answer c.mk.ensures.gives;
  notes = closing.around_ended c.args.store.now c.requires c.sequence.ensures.same_store c.in_ok-x01.ensures.answer c.sequence-2.ensures.same_store c.in_ok-cx.ensures.answer c.sequence-3.ensures.same_store c.in_ok-x10.ensures.answer c.sequence-4.ensures.same_store c.in_ok-xbe.ensures.answer c.union.ensures.same_store c.in_ok-x11.ensures.answer _ _ c.mk.ensures.gives;
}
