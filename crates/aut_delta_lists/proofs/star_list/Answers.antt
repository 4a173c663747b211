use Rattle.aut_delta_lists.proofs.Stored as lists
use Rattle.aut_delta_lists.proofs.star_list.Goals as goal

pub returns-in_err-n-clause-gives : goal.returns-in_err-n-clause-gives
returns-in_err-n-clause-gives c = lists.star_stuck c.requires c.source.ensures c.from_residual.ensures c.in_err-n.ensures.gives

pub set_aside-late-requires : goal.set_aside-late-requires
set_aside-late-requires c = lists.star_copy c.requires c.source.ensures c.in_ok-n.ensures.keeps c.in_ok-n.ensures.gives

pub st_precompose-requires : goal.st_precompose-requires
st_precompose-requires c = lists.star_ready c.requires c.source.ensures c.in_ok-n.ensures.keeps c.in_ok-n.ensures.gives c.set_aside-late.ensures.copied c.set_aside-late.auto.words c.set_aside-late.ensures.source

pub returns-clause-gives : goal.returns-clause-gives
returns-clause-gives c =
    lists.star_done c.requires c.source.ensures c.in_ok-n.ensures.keeps c.in_ok-n.ensures.gives c.set_aside-late.ensures.copied c.set_aside-late.auto.words c.set_aside-late.ensures.source c.st_precompose.ensures.gives
