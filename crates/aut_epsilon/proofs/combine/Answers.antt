use mathlib.Core.Logic.{inl, inr}
use Rattle.aut_delta_steps.specs.EpsilonReads.{operands_with}
use Rattle.aut_epsilon.proofs.Together as together
use Rattle.aut_epsilon.proofs.combine.Goals as goal

pub combine_each-requires : goal.combine_each-requires
combine_each-requires c = together.union_ready c.requires c.kind.ensures c.first-a.ensures c.second-b.ensures c.in-2.is c.zero-zero.ensures

pub value-first-requires : goal.value-first-requires
value-first-requires c = together.readable (together.first_value c.requires c.kind.ensures c.first-a.ensures c.second-b.ensures c.in-3.is)

pub combine_each-requires-in-3 : goal.combine_each-requires-in-3
combine_each-requires-in-3 c = together.rest_ready c.requires c.kind.ensures c.first-a.ensures c.second-b.ensures c.in-3.is c.value-first.ensures

pub value-requires : goal.value-requires
unfolding operands_with
value-requires c = together.readable (together.operands c.requires c.kind.ensures c.first-a.ensures c.second-b.ensures c.in-11.is).values.0

pub apply-requires : goal.apply-requires
apply-requires c = together.two_ready c.requires c.kind.ensures c.first-a.ensures c.second-b.ensures (inl c.in-4.is)

pub apply-requires-in-5 : goal.apply-requires-in-5
apply-requires-in-5 c = together.two_ready c.requires c.kind.ensures c.first-a.ensures c.second-b.ensures (inr (inl c.in-5.is))

pub apply-requires-in-6 : goal.apply-requires-in-6
apply-requires-in-6 c = together.one_ready c.requires c.kind.ensures c.first-a.ensures c.second-b.ensures (inl c.in-6.is)

pub relate-requires : goal.relate-requires
relate-requires c = together.two_ready c.requires c.kind.ensures c.first-a.ensures c.second-b.ensures (inr (inr c.in-7.is))

pub relate-requires-in-8 : goal.relate-requires-in-8
relate-requires-in-8 c = together.one_ready c.requires c.kind.ensures c.first-a.ensures c.second-b.ensures (inr c.in-8.is)

pub returns-in-2-clause-gives : goal.returns-in-2-clause-gives
returns-in-2-clause-gives c = together.does_as (together.union_is c.requires c.kind.ensures c.first-a.ensures c.second-b.ensures c.in-2.is c.zero-zero.ensures) c.combine_each.ensures.gives

pub returns-in-3-clause-gives : goal.returns-in-3-clause-gives
returns-in-3-clause-gives c = together.does_as (together.intersect_is c.requires c.kind.ensures c.first-a.ensures c.second-b.ensures c.in-3.is c.value-first.ensures) c.combine_each-in-3.ensures.gives
