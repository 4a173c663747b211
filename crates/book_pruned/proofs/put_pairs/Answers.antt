use Rattle.std.proofs.Common.{rules, arith}
use Rattle.book_pruned.proofs.Pairs as pairs
use Rattle.book_pruned.proofs.put_pairs.Goals as goal

pub pair_at-target-requires : goal.pair_at-target-requires
pair_at-target-requires c = (pairs.pairs_in c.loop-i.invariant.0 c.loop-i.invariant.2.pairs, c.loop-i-test.true)

pub loop-i-init : goal.loop-i-init
loop-i-init c = (search rules, search rules, pairs.placed_begin _ _ _ c.requires)

pub returns-in_err-pair_line-clause-answers : goal.returns-in_err-pair_line-clause-answers
returns-in_err-pair_line-clause-answers c =
    absurd (omega (arith, c.in_err-pair_line.ensures.answers.1, pairs.row_fits _ _ _ c.requires c.loop-i.invariant.2 c.loop-i-test.true (pairs.pair_in c.loop-i.invariant.0 c.pair_at-target.ensures.is)))

pub loop-i-preserved : goal.loop-i-preserved
loop-i-preserved c = (
  search rules,
  search rules,
  pairs.placed_again _ _ _ c.requires c.loop-i.invariant.2 c.loop-i-test.true (pairs.pair_in c.loop-i.invariant.0 c.pair_at-target.ensures.is) c.in_ok-pair_line.ensures.answers c.pair_at-target.ensures.keeps.scratch.length,
)

pub returns-clause-answers : goal.returns-clause-answers
returns-clause-answers c = pairs.placed_end _ _ _ c.requires c.loop-i.invariant.2 c.loop-i-test.false
