use Rattle.refusal.proofs.Passed.{passed}
use Rattle.aut_empty.proofs.Runs as runs
use Rattle.aut_empty.proofs.is_empty.Goals as goal

pub returns-in_err-first-clause-gives : goal.returns-in_err-first-clause-gives
returns-in_err-first-clause-gives c =
    runs.empty_full c.requires c.one_at_depth-one.ensures c.args.budget c.put.result c.put.ensures.keeps c.put.ensures.states c.put.ensures.gives _ c.in_err-first.ensures.value (passed c.from_residual.ensures)

pub search-requires : goal.search-requires
search-requires c =
    let p = c.put.ensures in
    runs.search_asks c.requires c.one_at_depth-one.ensures c.args.budget c.put.result p.keeps p.states p.gives c.in_ok-first.ensures.value

pub returns-in_err-verdict-clause-gives : goal.returns-in_err-verdict-clause-gives
returns-in_err-verdict-clause-gives c =
    let p = c.put.ensures in
    runs.empty_stuck c.requires c.one_at_depth-one.ensures c.args.budget c.put.result p.keeps p.states p.gives c.in_ok-first.ensures.value _ (passed c.from_residual-in_err-verdict.ensures) c.in_err-verdict.ensures.gives

pub clear_seen-requires : goal.clear_seen-requires
clear_seen-requires c =
    let p = c.put.ensures in
    runs.clear_seen_asks c.requires c.one_at_depth-one.ensures c.args.budget c.put.result p.keeps p.states p.gives c.in_ok-first.ensures.value c.in_ok-verdict.ensures.gives

pub clear_pending-requires : goal.clear_pending-requires
clear_pending-requires c =
    let p = c.put.ensures in
    let s = c.clear_seen.ensures in
    runs.clear_pending_asks c.requires c.one_at_depth-one.ensures c.args.budget c.put.result p.keeps p.states p.gives c.in_ok-first.ensures.value c.in_ok-verdict.ensures.gives s.keeps s.pending s.gives

pub returns-clause-pending : goal.returns-clause-pending
returns-clause-pending c =
    let p = c.put.ensures in
    let s = c.clear_seen.ensures in
    let e = c.clear_pending.ensures in
    runs.empty_pending c.requires c.one_at_depth-one.ensures c.args.budget c.put.result p.keeps p.states p.gives c.in_ok-first.ensures.value c.in_ok-verdict.ensures.gives s.keeps s.pending s.gives e.keeps e.states e.gives

pub returns-clause-gives : goal.returns-clause-gives
returns-clause-gives c =
    let p = c.put.ensures in
    let s = c.clear_seen.ensures in
    let e = c.clear_pending.ensures in
    runs.empty_done c.requires c.one_at_depth-one.ensures c.args.budget c.put.result p.keeps p.states p.gives c.in_ok-first.ensures.value c.in_ok-verdict.ensures.gives s.keeps s.pending s.gives e.keeps e.states e.gives
