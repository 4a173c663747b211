use Rattle.refusal.proofs.Passed.{passed}
use Rattle.aut_why.proofs.Whys as why
use Rattle.aut_why.proofs.why_sets.Goals as goal

pub returns-in_err-n-clause-gives : goal.returns-in_err-n-clause-gives
returns-in_err-n-clause-gives c = rw (passed c.from_residual.ensures) (why.why_refused c.requires c.in_err-n.ensures.gives)

pub keep-requires : goal.keep-requires
keep-requires c = why.why_keeps c.requires c.in_ok-n.ensures.gives

pub all_rounds-requires : goal.all_rounds-requires
all_rounds-requires c = why.why_all c.requires c.in_ok-n.ensures.gives c.keep.ensures.keeps c.keep.ensures.pending c.keep.ensures.gives

pub returns-in_err-hops-clause-gives : goal.returns-in_err-hops-clause-gives
returns-in_err-hops-clause-gives c =
    rw (passed c.from_residual-in_err-hops.ensures) (why.why_stuck c.requires c.in_ok-n.ensures.gives c.keep.ensures.keeps c.keep.ensures.pending c.keep.ensures.gives c.in_err-hops.ensures.gives)

pub returns-clause-gives : goal.returns-clause-gives
returns-clause-gives c =
    why.why_done c.requires c.in_ok-n.ensures.gives c.keep.ensures.keeps c.keep.ensures.pending c.keep.ensures.gives c.all_rounds.ensures.pending c.in_ok-hops.ensures.gives
