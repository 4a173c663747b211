use native.Mathlib.Omega.{arith}
use Rattle.refusal.proofs.Passed.{passed}
use Rattle.aut_empty_pair.proofs.Expands as expands
use Rattle.aut_empty_pair.proofs.expand.Goals as goal

pub seen_at-seen-requires : goal.seen_at-seen-requires
seen_at-seen-requires c = expands.seen_asks c.requires

pub union-requires : goal.union-requires
union-requires c = expands.union_asks c.requires c.seen_at-seen.ensures

pub returns-in_err-both-clause-gives : goal.returns-in_err-both-clause-gives
returns-in_err-both-clause-gives c =
    let u = c.in_err-both.ensures in
    expands.expand_full c.requires c.seen_at-seen.ensures u.keeps (passed c.from_residual.ensures) u.gives

pub epsilon-requires : goal.epsilon-requires
epsilon-requires c =
    let u = c.in_ok-both.ensures in
    expands.epsilon_asks c.requires c.seen_at-seen.ensures u.keeps u.gives

pub returns-in_err-ends-clause-gives : goal.returns-in_err-ends-clause-gives
returns-in_err-ends-clause-gives c =
    let u = c.in_ok-both.ensures in
    let e = c.in_err-ends.ensures in
    expands.expand_full_2 c.requires c.seen_at-seen.ensures u.keeps u.gives e.keeps (passed c.from_residual-in_err-ends.ensures) e.gives e.after

pub has_image-requires : goal.has_image-requires
has_image-requires c =
    let u = c.in_ok-both.ensures in
    let e = c.in_ok-ends.ensures in
    expands.has_asks c.requires c.seen_at-seen.ensures u.keeps u.gives e.keeps e.gives e.after

pub returns-then-has_image-clause-gives : goal.returns-then-has_image-clause-gives
returns-then-has_image-clause-gives c =
    let u = c.in_ok-both.ensures in
    let e = c.in_ok-ends.ensures in
    let h = c.has_image.ensures in
    expands.expand_found c.requires c.seen_at-seen.ensures u.keeps u.gives e.keeps e.gives e.after h.keeps h.has c.if-has_image.true

pub spread-requires : goal.spread-requires
spread-requires c =
    let u = c.in_ok-both.ensures in
    let e = c.in_ok-ends.ensures in
    let h = c.has_image.ensures in
    expands.spread_asks c.requires c.seen_at-seen.ensures u.keeps u.gives e.keeps e.gives e.after h.keeps h.has

pub returns-in_err-m-clause-gives : goal.returns-in_err-m-clause-gives
returns-in_err-m-clause-gives c =
    let u = c.in_ok-both.ensures in
    let e = c.in_ok-ends.ensures in
    let h = c.has_image.ensures in
    expands.expand_stuck c.requires c.seen_at-seen.ensures u.keeps u.gives e.keeps e.gives e.after h.keeps h.has c.if-has_image.false (passed c.from_residual-in_err-m.ensures) c.in_err-m.ensures.gives

pub put_set-requires : goal.put_set-requires
put_set-requires c =
    let u = c.in_ok-both.ensures in
    let e = c.in_ok-ends.ensures in
    let h = c.has_image.ensures in (
      omega (arith, expands.state_in4 c.requires c.seen_at-seen.ensures u.keeps u.gives e.keeps e.gives e.after h.keeps h.has c.if-has_image.false c.in_ok-m.ensures.gives),
      omega (arith, expands.both_small c.requires c.seen_at-seen.ensures u.keeps u.gives),
    )

pub returns-clause-gives : goal.returns-clause-gives
returns-clause-gives c =
    let u = c.in_ok-both.ensures in
    let e = c.in_ok-ends.ensures in
    let h = c.has_image.ensures in
    let s = c.in_ok-m.ensures in
    let w = c.put_set.ensures in
    expands.expand_goes c.requires c.seen_at-seen.ensures u.keeps u.gives e.keeps e.gives e.after h.keeps h.has c.if-has_image.false s.gives w.keeps w.pending w.gives
