use Rattle.aut_delta_lists.proofs.Stored as lists
use Rattle.aut_delta_lists.proofs.sequence_list.Goals as goal

pub returns-in_err-n-clause-gives : goal.returns-in_err-n-clause-gives
returns-in_err-n-clause-gives c = lists.seq_stuck_1 c.requires c.source.ensures c.from_residual.ensures c.in_err-n.ensures.gives

pub set_aside-late-requires : goal.set_aside-late-requires
set_aside-late-requires c = lists.seq_copy_1 c.requires c.source.ensures c.in_ok-n.ensures.keeps c.in_ok-n.ensures.gives

pub st_precompose-requires : goal.st_precompose-requires
st_precompose-requires c = lists.seq_ready c.requires c.source.ensures c.in_ok-n.ensures.keeps c.in_ok-n.ensures.gives c.set_aside-late.ensures.copied c.set_aside-late.auto.words c.source-2.ensures

pub returns-in_err-m-clause-gives : goal.returns-in_err-m-clause-gives
returns-in_err-m-clause-gives c =
    lists.seq_stuck_2 c.requires c.source.ensures c.in_ok-n.ensures.keeps c.in_ok-n.ensures.gives c.set_aside-late.ensures.copied c.set_aside-late.auto.words c.source-2.ensures c.from_residual-in_err-m.ensures c.in_err-m.ensures.gives

pub set_aside-early-requires : goal.set_aside-early-requires
set_aside-early-requires c =
    lists.seq_copy_2 c.requires c.source.ensures c.in_ok-n.ensures.keeps c.in_ok-n.ensures.gives c.set_aside-late.ensures.copied c.set_aside-late.auto.words c.source-2.ensures c.in_ok-m.ensures.keeps c.in_ok-m.ensures.gives

pub st_union-requires : goal.st_union-requires
st_union-requires c =
    lists.seq_join c.requires c.source.ensures c.in_ok-n.ensures.keeps c.in_ok-n.ensures.gives c.set_aside-late.ensures.copied c.set_aside-late.auto.words c.source-2.ensures c.in_ok-m.ensures.keeps c.in_ok-m.ensures.gives c.set_aside-early.ensures.copied c.set_aside-early.auto.words c.set_aside-late.ensures.source c.set_aside-early.ensures.source

pub returns-clause-gives : goal.returns-clause-gives
returns-clause-gives c =
    lists.seq_done c.requires c.source.ensures c.in_ok-n.ensures.keeps c.in_ok-n.ensures.gives c.set_aside-late.ensures.copied c.set_aside-late.auto.words c.source-2.ensures c.in_ok-m.ensures.keeps c.in_ok-m.ensures.gives c.set_aside-early.ensures.copied c.set_aside-early.auto.words c.set_aside-late.ensures.source c.set_aside-early.ensures.source c.st_union.ensures.gives
