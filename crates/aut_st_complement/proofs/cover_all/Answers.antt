use Rattle.refusal.proofs.Passed.{passed}
use Rattle.aut_st_stage.proofs.Turns.{turn_read, turn_edge, turn_stuck, turn_again, turn_end}
use Rattle.aut_relations.proofs.Kept.{keeps_of, keeps_refl, keeps_trans}
use Rattle.aut_st_complement.proofs.Cover.{cover_begin, both_labels, united}
use Rattle.aut_st_complement.proofs.cover_all.Goals as goal

pub loop-i-init : goal.loop-i-init
loop-i-init c = (cover_begin c.requires c.zero-sum.ensures, keeps_refl c.args.aut.now)

pub get-t-requires : goal.get-t-requires
get-t-requires c = turn_read c.loop-i.invariant.0 c.loop-i-test.true

pub apply-requires : goal.apply-requires
apply-requires c =
    let v = c.loop-i.invariant.0 in
    both_labels v.asked v.turned.holds (turn_edge v c.loop-i-test.true c.get-t.ensures)

pub returns-in_err-sum-clause-gives : goal.returns-in_err-sum-clause-gives
returns-in_err-sum-clause-gives c =
    let v = c.loop-i.invariant.0 in
    rw (passed c.from_residual.ensures) (turn_stuck v c.loop-i-test.true c.get-t.ensures (united v.asked v.turned.holds (turn_edge v c.loop-i-test.true c.get-t.ensures) c.in_err-sum.ensures.keeps c.in_err-sum.ensures.gives))

pub loop-i-preserved : goal.loop-i-preserved
loop-i-preserved c =
    let v = c.loop-i.invariant.0 in
    let K = c.in_ok-sum.ensures.keeps in
    (turn_again v c.loop-i-test.true c.get-t.ensures (keeps_of K) (united v.asked v.turned.holds (turn_edge v c.loop-i-test.true c.get-t.ensures) K c.in_ok-sum.ensures.gives), keeps_trans c.loop-i.invariant.1 K)

pub returns-clause-gives : goal.returns-clause-gives
returns-clause-gives c = turn_end c.loop-i.invariant.0 c.loop-i-test.false
