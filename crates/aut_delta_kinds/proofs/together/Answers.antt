use native.Mathlib.Omega.{arith}
use mathlib.Core.Path.{sym, ◌∙◌}
use Rattle.aut_delta_lists.proofs.Alone as alone
use Rattle.aut_delta_kinds.proofs.Operands as operands
use Rattle.aut_delta_kinds.proofs.ByKind as kinds
use Rattle.aut_delta_kinds.proofs.together.Goals as goal

pub returns-in-1-clause-gives : goal.returns-in-1-clause-gives
returns-in-1-clause-gives c = kinds.of_spp c.requires c.first-a.ensures c.second-b.ensures (sym c.kind.ensures ∙ c.in-1.is)

pub union_all-requires : goal.union_all-requires
union_all-requires c = kinds.union_ready c.requires c.first-a.ensures c.second-b.ensures (sym c.kind.ensures ∙ c.in-2.is)

pub returns-in-2-clause-gives : goal.returns-in-2-clause-gives
returns-in-2-clause-gives c = kinds.of_union c.requires c.first-a.ensures c.second-b.ensures (sym c.kind.ensures ∙ c.in-2.is) c.union_all.ensures.gives

pub intersect_all-requires : goal.intersect_all-requires
intersect_all-requires c = kinds.intersect_ready c.requires c.first-a.ensures c.second-b.ensures (sym c.kind.ensures ∙ c.in-3.is)

pub returns-in-3-clause-gives : goal.returns-in-3-clause-gives
returns-in-3-clause-gives c = kinds.of_intersect c.requires c.first-a.ensures c.second-b.ensures (sym c.kind.ensures ∙ c.in-3.is) c.intersect_all.ensures.gives

pub stored_list-one-requires : goal.stored_list-one-requires
stored_list-one-requires c = operands.find_ready c.requires.ready (operands.complement_operand c.requires.ready c.first-a.ensures c.second-b.ensures (sym c.kind.ensures ∙ c.in-6.is))

pub st_complement-requires : goal.st_complement-requires
st_complement-requires c = kinds.complement_ready c.requires c.first-a.ensures c.second-b.ensures c.stored_list-one.ensures (sym c.kind.ensures ∙ c.in-6.is) c.source.ensures

pub returns-in-6-clause-gives : goal.returns-in-6-clause-gives
returns-in-6-clause-gives c = kinds.of_complement c.requires c.first-a.ensures c.second-b.ensures c.stored_list-one.ensures (sym c.kind.ensures ∙ c.in-6.is) c.source.ensures c.st_complement.ensures.gives

pub dup_list-requires : goal.dup_list-requires
dup_list-requires c = kinds.alone_ready c.requires

pub returns-in-9-clause-gives : goal.returns-in-9-clause-gives
returns-in-9-clause-gives c = kinds.of_dup c.requires c.first-a.ensures c.second-b.ensures (sym c.kind.ensures ∙ c.in-9.is) (alone.lent_gives (kinds.asked c.requires) c.dup_list.ensures.spp c.dup_list.ensures.members tt c.dup_list.ensures.gives)

pub next_list-requires : goal.next_list-requires
next_list-requires c = (kinds.next_ready c.requires c.first-a.ensures c.second-b.ensures (sym c.kind.ensures ∙ c.in-10.is)).0

pub returns-in-10-clause-gives : goal.returns-in-10-clause-gives
returns-in-10-clause-gives c = kinds.of_next c.requires c.first-a.ensures c.second-b.ensures (sym c.kind.ensures ∙ c.in-10.is) (alone.lent_gives (kinds.asked c.requires) c.next_list.ensures.spp c.next_list.ensures.members (kinds.next_ready c.requires c.first-a.ensures c.second-b.ensures (sym c.kind.ensures ∙ c.in-10.is)).1 c.next_list.ensures.gives)

pub top_list-requires : goal.top_list-requires
top_list-requires c = kinds.alone_ready c.requires

pub returns-in-12-clause-gives : goal.returns-in-12-clause-gives
returns-in-12-clause-gives c = kinds.of_top c.requires c.first-a.ensures c.second-b.ensures (sym c.kind.ensures ∙ c.in-12.is) (alone.lent_gives (kinds.asked c.requires) c.top_list.ensures.spp c.top_list.ensures.members tt c.top_list.ensures.gives)

pub together_two-requires : goal.together_two-requires
together_two-requires c =
    let k = c.kind.ensures in (
      c.requires,
      operands.two_left c.requires.ready (λ e. omega (arith, k, c.in_default)) (λ e. omega (arith, k, c.in_default)) (λ e. omega (arith, k, c.in_default)) (λ e. omega (arith, k, c.in_default)) (λ e. omega (arith, k, c.in_default)) (λ e. omega (arith, k, c.in_default)) (λ e. omega (arith, k, c.in_default)) (λ e. omega (arith, k, c.in_default)),
    )
