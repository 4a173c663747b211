use Rattle.refusal.proofs.Passed.{passed}
use Rattle.aut_delta_kinds.proofs.ByKind as kinds
use Rattle.aut_delta_kinds.proofs.together_star.Goals as goal

pub stored_list-one-requires : goal.stored_list-one-requires
stored_list-one-requires c = kinds.star_ask c.requires.0 c.requires.1 c.first-a.ensures

pub value-e-requires : goal.value-e-requires
value-e-requires c = kinds.star_value c.requires.0 c.requires.1 c.first-a.ensures

pub relate-requires : goal.relate-requires
relate-requires c = kinds.relate_ready c.requires.0 c.requires.1 c.first-a.ensures c.stored_list-one.ensures c.value-e.ensures

pub returns-in_err-h-clause-gives : goal.returns-in_err-h-clause-gives
returns-in_err-h-clause-gives c =
    kinds.star_stuck c.requires.0 c.requires.1 c.first-a.ensures c.stored_list-one.ensures c.value-e.ensures c.in_err-h.ensures.keeps (passed c.from_residual.ensures) c.in_err-h.ensures.gives

pub star_list-requires : goal.star_list-requires
star_list-requires c = kinds.star_ready c.requires.0 c.requires.1 c.first-a.ensures c.stored_list-one.ensures c.value-e.ensures c.in_ok-h.ensures.keeps c.in_ok-h.ensures.gives

pub returns-clause-gives : goal.returns-clause-gives
returns-clause-gives c =
    kinds.of_star c.requires.0 c.requires.1 c.first-a.ensures c.stored_list-one.ensures c.value-e.ensures c.in_ok-h.ensures.keeps c.in_ok-h.ensures.gives c.star_list.ensures.gives
