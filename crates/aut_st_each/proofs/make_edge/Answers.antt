use mathlib.Core.Path.{refl}
use native.Mathlib.Omega.{arith}
use Rattle.aut_steps.specs.Constructors as C
use Rattle.aut_states.specs.Clauses.{limits_of}
use Rattle.aut_relations.proofs.Order.{ready_complement}
use Rattle.aut_sequence.proofs.Tables.{lent_made}
use Rattle.aut_st_each.proofs.Join.{by_target, by_states, by_label}
use Rattle.aut_st_each.proofs.make_edge.Goals as goal

pub mk_complement-requires : goal.mk_complement-requires
mk_complement-requires c = (ready_complement c.requires.asked.ready.good c.requires.edge.state, c.requires.asked.ready.few)

pub returns-in_ok-target-in-Sequence-clause-gives :
    goal.returns-in_ok-target-in-Sequence-clause-gives
returns-in_ok-target-in-Sequence-clause-gives c =
    by_target c.in-Sequence.is c.requires c.mk_sequence.ensures.keeps.scratch.length (lent_made c.mk_sequence.ensures.members c.in_ok-target-in-Sequence.ensures.gives) (omega arith) refl

pub returns-in_ok-label-in-After-clause-gives : goal.returns-in_ok-label-in-After-clause-gives
returns-in_ok-label-in-After-clause-gives c =
    by_label c.in-After.is c.requires c.relate.ensures.keeps c.in_ok-label-in-After.ensures.gives refl

pub returns-in_ok-target-in-Intersect-clause-gives :
    goal.returns-in_ok-target-in-Intersect-clause-gives
returns-in_ok-target-in-Intersect-clause-gives c =
    by_target c.in-Intersect.is c.requires c.mk_intersect.ensures.keeps.scratch.length c.in_ok-target-in-Intersect.ensures.gives (omega arith) refl

pub returns-in_ok-target-in-Complement-clause-gives :
    goal.returns-in_ok-target-in-Complement-clause-gives
returns-in_ok-target-in-Complement-clause-gives c =
    by_states c.in-Complement.is c.requires (C.mk_complement c.args.config.fields (limits_of c.args.config.limits) c.args.t.target) c.in_ok-target-in-Complement.ensures.gives refl

pub returns-in_ok-label-in-Rest-clause-gives : goal.returns-in_ok-label-in-Rest-clause-gives
returns-in_ok-label-in-Rest-clause-gives c =
    by_label c.in-Rest.is c.requires c.apply.ensures.keeps c.in_ok-label-in-Rest.ensures.gives refl
