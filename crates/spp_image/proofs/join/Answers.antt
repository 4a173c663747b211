use Rattle.sp.proofs.Refused.{refused_answer}
use Rattle.spp_image.proofs.Halves as halves
use Rattle.spp_image.proofs.join.Goals as goal

pub returns-in_err-x0-clause-answer : goal.returns-in_err-x0-clause-answer
returns-in_err-x0-clause-answer c = refused_answer c.from_residual.ensures (halves.full_1 c.requires c.in_err-x0.ensures.answer.gives)

pub union-requires-2 : goal.union-requires-2
union-requires-2 c = halves.asked_2 c.requires c.in_ok-x0.ensures.answer

pub returns-in_err-x1-clause-answer : goal.returns-in_err-x1-clause-answer
returns-in_err-x1-clause-answer c =
    refused_answer c.from_residual-in_err-x1.ensures (halves.full_2 c.requires c.in_ok-x0.ensures.answer c.in_err-x1.ensures.answer.gives)

pub mk-requires : goal.mk-requires
mk-requires c = halves.mk_ready c.requires c.in_ok-x0.ensures.answer c.in_ok-x1.ensures.answer

pub returns-clause-answer : goal.returns-clause-answer
returns-clause-answer c = halves.made c.requires c.in_ok-x0.ensures.answer c.in_ok-x1.ensures.answer _ _ c.mk.ensures.gives
