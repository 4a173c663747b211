use Rattle.std.proofs.Common.{rules}
use Rattle.book_pruned.proofs.Pairs as pairs
use Rattle.book_pruned.proofs.pairs_length.Goals as goal

pub pair_at-target-requires : goal.pair_at-target-requires
pair_at-target-requires c = (pairs.pairs_in c.loop-i.invariant.0 c.loop-i.invariant.1.pairs, c.loop-i-test.true)

pub loop-i-init : goal.loop-i-init
loop-i-init c = (search rules, pairs.summed_begin _ _ _ c.requires)

pub loop-i-preserved : goal.loop-i-preserved
loop-i-preserved c = (
  search rules,
  pairs.summed_again _ _ _ c.loop-i.invariant.1 c.loop-i-test.true c.pair_at-target.ensures.keeps.scratch.length (pairs.pair_in c.loop-i.invariant.0 c.pair_at-target.ensures.is) c.pair_length-total.ensures,
)

pub returns-clause-is : goal.returns-clause-is
returns-clause-is c = pairs.summed_end _ _ _ c.loop-i.invariant.1 c.loop-i.auto.i-end c.loop-i-test.false
