use Rattle.refusal.proofs.Passed.{passed}
use Rattle.aut_delta.proofs.Storing as storing
use Rattle.aut_delta.proofs.finish.Goals as goal

pub enter-requires : goal.enter-requires
enter-requires c = storing.enter_ready c.requires

pub returns-in_err-enter-clause-gives : goal.returns-in_err-enter-clause-gives
returns-in_err-enter-clause-gives c = storing.no_node c.requires (passed c.from_residual.ensures) c.in_err-enter.ensures.gives

pub together-requires : goal.together-requires
together-requires c = let e = c.in_ok-enter.ensures in storing.together_ready c.requires e.gives e.keeps

pub returns-in_err-m-clause-gives : goal.returns-in_err-m-clause-gives
returns-in_err-m-clause-gives c = let e = c.in_ok-enter.ensures in storing.no_list c.requires e.gives e.keeps c.in_err-m.ensures.keeps (passed c.from_residual-in_err-m.ensures) c.in_err-m.ensures.gives

pub keep_list-requires : goal.keep_list-requires
keep_list-requires c =
    let e = c.in_ok-enter.ensures in
    storing.keep_ready c.requires e.gives e.keeps c.in_ok-m.ensures.keeps c.in_ok-m.ensures.gives

pub returns-clause-gives : goal.returns-clause-gives
returns-clause-gives c =
    let e = c.in_ok-enter.ensures in
    storing.stored c.requires e.gives e.keeps c.in_ok-m.ensures.keeps c.in_ok-m.ensures.gives c.keep_list.ensures.keeps c.keep_list.result c.keep_list.ensures.gives
