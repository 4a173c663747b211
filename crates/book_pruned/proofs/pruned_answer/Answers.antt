use Rattle.book_pruned.proofs.Pairs as pairs
use native.Mathlib.Omega.{arith}
use Rattle.refusal.proofs.Passed.{passed}
use Rattle.book_pruned.proofs.pruned_answer.Goals as goal

pub overflow_add-n : goal.overflow_add-n
overflow_add-n c =
    omega (arith, c.head_length.ensures.1, c.pairs_length.ensures.is.most, c.requires.most)

pub returns-in_err-room-clause-answers : goal.returns-in_err-room-clause-answers
returns-in_err-room-clause-answers c =
    rw (passed c.from_residual.ensures) (pairs.pruned_short _ _ _ _ _ c.args.out.now c.requires c.head_length.ensures c.pairs_length.ensures.is c.in_err-room.ensures)

pub returns-in_err-pruned_head-clause-answers : goal.returns-in_err-pruned_head-clause-answers
returns-in_err-pruned_head-clause-answers c =
    absurd (pairs.head_fits _ _ _ _ _ c.args.out.now c.requires c.head_length.ensures c.pairs_length.ensures.is c.in_ok-room.ensures c.in_err-pruned_head.ensures.answers.1)

pub put_pairs-requires : goal.put_pairs-requires
put_pairs-requires c =
    pairs.put_in c.pairs_length.ensures.keeps
    (pairs.pairs_fit _ _ _ _ _ c.args.out.now c.requires c.head_length.ensures c.pairs_length.ensures.is c.in_ok-room.ensures c.in_ok-pruned_head.ensures.answers c.pairs_length.ensures.keeps.scratch.length)

pub returns-clause-answers : goal.returns-clause-answers
returns-clause-answers c =
    pairs.pruned_whole _ _ _ _ _ c.args.out.now c.requires c.head_length.ensures c.pairs_length.ensures.is c.in_ok-room.ensures c.in_ok-pruned_head.ensures.answers c.pairs_length.ensures.keeps.scratch.length c.put_pairs.result
    (pairs.told_in c.pairs_length.ensures.keeps c.put_pairs.ensures.answers)
