use Rattle.aut_relations.proofs.Order.{ready_complement, ready_next}
use Rattle.aut_sequence.proofs.Tables.{lent_made}
use Rattle.book_construct.proofs.make_single.Goals as goal

pub mk_complement-requires : goal.mk_complement-requires
mk_complement-requires c = (ready_complement c.requires.0.ready.good c.requires.1.0, c.requires.0.ready.few)

pub mk_next-requires : goal.mk_next-requires
mk_next-requires c = ready_next c.requires.0.ready.good c.requires.1.0

pub returns-in-Star-clause-gives : goal.returns-in-Star-clause-gives
returns-in-Star-clause-gives c = rw c.in-Star.is (lent_made c.mk_star.ensures.members c.mk_star.ensures.gives)
