use Rattle.aut_relations.proofs.Order.{ready_until}
use Rattle.aut_sequence.proofs.Tables.{lent_within}
use Rattle.book_construct.proofs.make_pair.Goals as goal

pub mk_until-requires : goal.mk_until-requires
mk_until-requires c = ready_until c.requires.0.ready.good c.requires.1.has_x c.requires.1.has_y

pub returns-in-Xor-clause-gives : goal.returns-in-Xor-clause-gives
returns-in-Xor-clause-gives c = rw c.in-Xor.is (lent_within c.mk_xor.ensures.members c.mk_xor.ensures.gives)

pub returns-in-Minus-clause-gives : goal.returns-in-Minus-clause-gives
returns-in-Minus-clause-gives c = rw c.in-Minus.is (lent_within c.mk_difference.ensures.members c.mk_difference.ensures.gives)

pub returns-in-Seq-clause-gives : goal.returns-in-Seq-clause-gives
returns-in-Seq-clause-gives c = rw c.in-Seq.is (lent_within c.mk_sequence.ensures.members c.mk_sequence.ensures.gives)
