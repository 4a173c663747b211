use Rattle.aut_intersect.proofs.Chain as chain
use Rattle.aut_intersect.proofs.distribute.Goals as goal

pub count_all-requires : goal.count_all-requires
count_all-requires c = chain.count_ready c.requires.0 c.requires.1

pub returns-in_err-n-clause-gives : goal.returns-in_err-n-clause-gives
returns-in_err-n-clause-gives c = chain.too_many c.requires.0 c.requires.1 c.count_all.ensures c.in_err-n.ensures.value c.from_residual.ensures

pub bases-requires : goal.bases-requires
bases-requires c = chain.bases_ready c.requires.0 c.requires.1 c.count_all.ensures c.in_ok-n.ensures.ok_part

pub returns-in_err-bases-clause-gives : goal.returns-in_err-bases-clause-gives
returns-in_err-bases-clause-gives c =
    chain.not_based c.requires.0 c.requires.1 c.count_all.ensures c.in_ok-n.ensures.ok_part c.from_residual-in_err-bases.ensures c.in_err-bases.ensures.gives

pub mk_union_n-requires : goal.mk_union_n-requires
mk_union_n-requires c = chain.union_asked c.requires.0 c.requires.1 c.count_all.ensures c.in_ok-n.ensures.ok_part c.in_ok-bases.ensures.keeps c.in_ok-bases.ensures.gives

pub returns-clause-gives : goal.returns-clause-gives
returns-clause-gives c =
    chain.united c.requires.0 c.requires.1 c.count_all.ensures c.in_ok-n.ensures.ok_part c.in_ok-bases.ensures.keeps c.in_ok-bases.ensures.gives c.mk_union_n.ensures.keeps c.mk_union_n.ensures.gives
