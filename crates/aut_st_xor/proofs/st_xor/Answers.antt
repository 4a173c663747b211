use Rattle.aut_st_xor.proofs.Xor.{stuck_1, copy_1, other_asked, stuck_2, copy_2, join_asked, joined}
use Rattle.aut_st_xor.proofs.st_xor.Goals as goal

pub returns-in_err-n-clause-gives : goal.returns-in_err-n-clause-gives
returns-in_err-n-clause-gives c = stuck_1 c.requires c.source-x.ensures c.source-y.ensures c.from_residual.ensures c.in_err-n.ensures.gives

pub set_aside-left-requires : goal.set_aside-left-requires
set_aside-left-requires c = copy_1 c.requires c.source-x.ensures c.source-y.ensures c.in_ok-n.ensures.keeps c.in_ok-n.ensures.gives

pub st_difference-requires-2 : goal.st_difference-requires-2
st_difference-requires-2 c = other_asked c.requires c.source-x.ensures c.source-y.ensures c.in_ok-n.ensures.keeps c.in_ok-n.ensures.gives c.set_aside-left.ensures.copied c.set_aside-left.auto.words

pub returns-in_err-m-clause-gives : goal.returns-in_err-m-clause-gives
returns-in_err-m-clause-gives c = stuck_2 c.requires c.source-x.ensures c.source-y.ensures c.in_ok-n.ensures.keeps c.in_ok-n.ensures.gives c.set_aside-left.ensures.copied c.set_aside-left.auto.words c.from_residual-in_err-m.ensures c.in_err-m.ensures.gives

pub set_aside-right-requires : goal.set_aside-right-requires
set_aside-right-requires c = copy_2 c.requires c.source-x.ensures c.source-y.ensures c.in_ok-n.ensures.keeps c.in_ok-n.ensures.gives c.set_aside-left.ensures.copied c.set_aside-left.auto.words c.in_ok-m.ensures.keeps c.in_ok-m.ensures.gives

pub st_union-requires : goal.st_union-requires
st_union-requires c = join_asked c.requires c.source-x.ensures c.source-y.ensures c.in_ok-n.ensures.keeps c.in_ok-n.ensures.gives c.set_aside-left.ensures.copied c.set_aside-left.auto.words c.in_ok-m.ensures.keeps c.in_ok-m.ensures.gives c.set_aside-right.ensures.copied c.set_aside-right.auto.words c.set_aside-left.ensures.source c.set_aside-right.ensures.source

pub returns-clause-gives : goal.returns-clause-gives
returns-clause-gives c = joined c.requires c.source-x.ensures c.source-y.ensures c.in_ok-n.ensures.keeps c.in_ok-n.ensures.gives c.set_aside-left.ensures.copied c.set_aside-left.auto.words c.in_ok-m.ensures.keeps c.in_ok-m.ensures.gives c.set_aside-right.ensures.copied c.set_aside-right.auto.words c.set_aside-left.ensures.source c.set_aside-right.ensures.source c.st_union.ensures.gives
