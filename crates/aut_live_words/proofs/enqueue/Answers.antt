use native.Mathlib.Omega.{arith}
use Rattle.std.proofs.Common.{rules}
use Rattle.aut_live_words.proofs.Words as words
use Rattle.aut_live_words.proofs.enqueue.Goals as goal

pub get-t-requires : goal.get-t-requires
get-t-requires c = rw c.loop-i.invariant.0.transitions (omega (arith, words.listed_inside c.requires.listed c.stored_list-list.ensures, c.loop-i-test.true))

pub reach-requires : goal.reach-requires
reach-requires c = words.enqueue_asks c.requires c.stored_list-list.ensures c.loop-i.invariant.1 c.loop-i-test.true (rw c.loop-i.invariant.0.transitions at c.get-t.ensures)

pub returns-in_err-n-clause-gives : goal.returns-in_err-n-clause-gives
returns-in_err-n-clause-gives c =
    words.enqueue_full c.requires c.stored_list-list.ensures c.loop-i.invariant.1 c.loop-i-test.true (rw c.loop-i.invariant.0.transitions at c.get-t.ensures) c.from_residual.ensures c.in_err-n.ensures.gives

pub loop-i-preserved : goal.loop-i-preserved
loop-i-preserved c =
    let k = c.in_ok-n.ensures.keeps in
    (search rules, words.enqueue_again c.requires c.stored_list-list.ensures c.loop-i.invariant.1 c.loop-i-test.true (rw c.loop-i.invariant.0.transitions at c.get-t.ensures) c.in_ok-n.ensures.gives k.states.length k.pending.length)

pub returns-clause-gives : goal.returns-clause-gives
returns-clause-gives c = words.enqueue_end c.requires c.stored_list-list.ensures c.loop-i.invariant.1 c.loop-i-test.false
