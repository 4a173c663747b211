use native.Mathlib.Omega.{arith}
use mathlib.Core.Path.{◌≡◌, sym, ◌∙◌}
use Rattle.aut_steps.specs.Tables.{SEQUENCE, kind_of}
use Rattle.aut_delta_kinds.proofs.Operands as operands
use Rattle.aut_delta_kinds.proofs.ByKind as kinds
use Rattle.aut_delta_kinds.proofs.together_two.Goals as goal
use Rattle.aut_delta_kinds.proofs.together_two.Goals.{In_default}

pub stored_list-one-requires : goal.stored_list-one-requires
stored_list-one-requires c = operands.find_ready c.requires.0.ready (operands.two_operands c.requires.0.ready c.first-a.ensures c.second-b.ensures c.requires.1).0

pub stored_list-two-requires : goal.stored_list-two-requires
stored_list-two-requires c = operands.find_ready c.requires.0.ready (operands.two_operands c.requires.0.ready c.first-a.ensures c.second-b.ensures c.requires.1).1

pub st_xor-requires : goal.st_xor-requires
st_xor-requires c = kinds.two_ready c.requires.0 c.first-a.ensures c.second-b.ensures c.stored_list-one.ensures c.stored_list-two.ensures c.requires.1

pub returns-in-4-clause-gives : goal.returns-in-4-clause-gives
returns-in-4-clause-gives c = kinds.of_xor c.requires.0 c.first-a.ensures c.second-b.ensures c.stored_list-one.ensures c.stored_list-two.ensures (sym c.kind.ensures ∙ c.in-4.is) c.st_xor.ensures.gives

pub st_difference-requires : goal.st_difference-requires
st_difference-requires c = kinds.difference_ready c.requires.0 c.first-a.ensures c.second-b.ensures c.stored_list-one.ensures c.stored_list-two.ensures c.requires.1 c.source.ensures c.source-in-5.ensures

pub returns-in-5-clause-gives : goal.returns-in-5-clause-gives
returns-in-5-clause-gives c =
    kinds.of_difference c.requires.0 c.first-a.ensures c.second-b.ensures c.stored_list-one.ensures c.stored_list-two.ensures (sym c.kind.ensures ∙ c.in-5.is) c.source.ensures c.source-in-5.ensures c.st_difference.ensures.gives

pub until_list-requires : goal.until_list-requires
until_list-requires c = kinds.until_ready c.requires.0 c.first-a.ensures c.second-b.ensures c.stored_list-one.ensures c.stored_list-two.ensures c.requires.1

pub returns-in-11-clause-gives : goal.returns-in-11-clause-gives
returns-in-11-clause-gives c = kinds.of_until c.requires.0 c.first-a.ensures c.second-b.ensures c.stored_list-one.ensures c.stored_list-two.ensures (sym c.kind.ensures ∙ c.in-11.is) c.until_list.ensures.gives

seven : (c : In_default) → kind_of c.args.aut.now.states.words.now c.args.x ≡ SEQUENCE
seven c = operands.is_seven c.requires.1 (λ e. omega (arith, c.kind.ensures, c.in_default)) (λ e. omega (arith, c.kind.ensures, c.in_default)) (λ e. omega (arith, c.kind.ensures, c.in_default))

pub value-e-requires : goal.value-e-requires
value-e-requires c =
    kinds.sequence_value c.requires.0 c.first-a.ensures c.second-b.ensures c.stored_list-one.ensures c.stored_list-two.ensures c.requires.1
    (seven (goal.at.value-e-requires c).In_default)

pub sequence_list-requires : goal.sequence_list-requires
sequence_list-requires c =
    kinds.sequence_ready c.requires.0 c.first-a.ensures c.second-b.ensures c.stored_list-one.ensures c.stored_list-two.ensures c.requires.1
    (seven (goal.at.sequence_list-requires c).In_default) c.value-e.ensures

pub returns-in_default-clause-gives : goal.returns-in_default-clause-gives
returns-in_default-clause-gives c =
    kinds.of_sequence c.requires.0 c.first-a.ensures c.second-b.ensures c.stored_list-one.ensures c.stored_list-two.ensures c.value-e.ensures
    (seven (goal.at.returns-in_default-clause-gives c).In_default) c.sequence_list.ensures.gives
