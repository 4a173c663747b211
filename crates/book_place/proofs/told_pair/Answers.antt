use Rattle.refusal.proofs.Passed.{passed}
use Rattle.book_place.proofs.Telling as telling
use Rattle.book_place.proofs.told_pair.Goals as goal

pub returns-in_err-x : goal.returns-in_err-x
returns-in_err-x c = let o = c.in_err-x.ensures in rw (passed c.from_residual.ensures, o.1) (telling.pair_no_first c.args.lines.now _ _ _ o.0)

pub returns-in_err-y : goal.returns-in_err-y
returns-in_err-y c =
    let o = c.in_err-y.ensures in
    rw (passed c.from_residual-in_err-y.ensures, o.1) (telling.pair_no_second c.args.lines.now _ _ _ c.in_ok-x.ensures o.0)

pub returns : goal.returns
returns c = telling.pair_makes c.args.lines.now _ _ _ c.in_ok-x.ensures c.in_ok-y.ensures
