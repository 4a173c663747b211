use native.Mathlib.Omega.{arith}
use Rattle.aut_query_calls.proofs.Works.{keeps_beside}
use Rattle.aut_live_words.specs.Work.{work_of}
use Rattle.aut_live_pull.proofs.Settling as settling
use Rattle.aut_live_pull.proofs.pull_from.Goals as goal

pub label_to-requires : goal.label_to-requires
label_to-requires c = settling.pull_listed c.requires.source

pub returns-in_default-clause-gives : goal.returns-in_default-clause-gives
returns-in_default-clause-gives c = λ mem n S. settling.pull_none S c.in_default.ensures

pub set_at-ahead-requires : goal.set_at-ahead-requires
unfolding work_of
set_at-ahead-requires c = (omega (arith, settling.pull_target c.requires.source), c.requires.source.target)

pub pull-requires : goal.pull-requires
pull-requires c = settling.pull_asks c.requires.source _ c.in-Some.ensures c.set_at-ahead.ensures

pub returns-in_err-accepted-clause-gives : goal.returns-in_err-accepted-clause-gives
returns-in_err-accepted-clause-gives c = λ mem n S. settling.pull_stuck S _ c.in-Some.ensures c.set_at-ahead.ensures (keeps_beside mem c.in_err-accepted.ensures.keeps) c.from_residual.ensures c.in_err-accepted.ensures.gives

pub set_at-here-requires : goal.set_at-here-requires
set_at-here-requires c =
    let a = c.in_ok-accepted.ensures in
    let A = keeps_beside c.requires.members a.keeps in
    (omega (arith, settling.pull_source c.requires.source _ c.in-Some.ensures c.set_at-ahead.ensures A a.gives), settling.pull_reached c.requires.source _ c.in-Some.ensures c.set_at-ahead.ensures A a.gives)

pub union-requires : goal.union-requires
union-requires c =
    let a = c.in_ok-accepted.ensures in
    settling.union_asks c.requires.source _ c.in-Some.ensures c.set_at-ahead.ensures (keeps_beside c.requires.members a.keeps) a.gives c.set_at-here.ensures

pub returns-in_err-combined-clause-gives : goal.returns-in_err-combined-clause-gives
returns-in_err-combined-clause-gives c =
    let a = c.in_ok-accepted.ensures in
    let b = c.in_err-combined.ensures in
    λ mem n S. settling.union_stuck S _ c.in-Some.ensures c.set_at-ahead.ensures (keeps_beside mem a.keeps) a.gives c.set_at-here.ensures (keeps_beside mem b.keeps) c.from_residual-in_err-combined.ensures b.gives

pub enlarge-requires : goal.enlarge-requires
enlarge-requires c =
    let a = c.in_ok-accepted.ensures in
    let b = c.in_ok-combined.ensures in
    let m = c.requires.members in
    settling.enlarge_ready c.requires.source _ c.in-Some.ensures c.set_at-ahead.ensures (keeps_beside m a.keeps) a.gives c.set_at-here.ensures (keeps_beside m b.keeps) b.gives

pub returns-clause-gives : goal.returns-clause-gives
returns-clause-gives c =
    let a = c.in_ok-accepted.ensures in
    let b = c.in_ok-combined.ensures in
    λ mem n S.
    settling.enlarged S _ c.in-Some.ensures c.set_at-ahead.ensures (keeps_beside mem a.keeps) a.gives c.set_at-here.ensures (keeps_beside mem b.keeps) b.gives (keeps_beside mem c.enlarge.ensures.keeps) c.enlarge.result c.enlarge.ensures.gives c.ok_or.ensures.value
