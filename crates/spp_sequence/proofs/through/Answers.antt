use Rattle.spp.specs.Clauses.{quad_of}
use Rattle.spp_sequence.proofs.Calls.{through_stopped}
use Rattle.spp_sequence.proofs.Closing as closing
use Rattle.spp_sequence.proofs.through.Goals as goal

pub returns-in_err-be-clause-answer : goal.returns-in_err-be-clause-answer
returns-in_err-be-clause-answer c =
    through_stopped c.from_residual.ensures.0 (closing.through_lost_1 c.args.store.now (quad_of c.args.x) c.requires c.in_err-be.ensures.answer)

pub sequence-requires-2 : goal.sequence-requires-2
sequence-requires-2 c = closing.through_ready_2 c.args.store.now (quad_of c.args.x) c.requires c.sequence.ensures.same_store c.in_ok-be.ensures.answer

pub returns-in_err-bec-clause-answer : goal.returns-in_err-bec-clause-answer
returns-in_err-bec-clause-answer c =
    through_stopped c.from_residual-in_err-bec.ensures.0 (closing.through_lost_2 c.args.store.now (quad_of c.args.x) c.requires c.sequence.ensures.same_store c.in_ok-be.ensures.answer c.in_err-bec.ensures.answer)

pub union-requires : goal.union-requires
union-requires c = closing.through_ready_3 c.args.store.now (quad_of c.args.x) c.requires c.sequence.ensures.same_store c.in_ok-be.ensures.answer c.sequence-2.ensures.same_store c.in_ok-bec.ensures.answer

pub returns-in_err-sum-clause-answer : goal.returns-in_err-sum-clause-answer
returns-in_err-sum-clause-answer c =
    through_stopped c.from_residual-in_err-sum.ensures.0 (closing.through_lost_3 c.args.store.now (quad_of c.args.x) c.requires c.sequence.ensures.same_store c.in_ok-be.ensures.answer c.sequence-2.ensures.same_store c.in_ok-bec.ensures.answer c.in_err-sum.ensures.answer)

pub returns-clause-answer : goal.returns-clause-answer
returns-clause-answer c =
    let s = closing.through_made c.args.store.now (quad_of c.args.x) c.requires c.sequence.ensures.same_store c.in_ok-be.ensures.answer c.sequence-2.ensures.same_store c.in_ok-bec.ensures.answer c.union.ensures.same_store c.in_ok-sum.ensures.answer in
    record { gives = s.left; notes = s.notes }
