use Rattle.aut_live_words.proofs.Words as words
use Rattle.aut_live_words.proofs.reach.Goals as goal

pub returns-then-is_some-clause-gives : goal.returns-then-is_some-clause-gives
returns-then-is_some-clause-gives c = words.reach_there c.find_set.result c.find_set.ensures c.is_some.ensures c.if-is_some.true

pub returns-then-n-capacity-clause-gives : goal.returns-then-n-capacity-clause-gives
returns-then-n-capacity-clause-gives c =
    rw (c.put_set.ensures.gives, c.put_set.ensures.pending) (words.reach_new c.find_set.result c.find_set.ensures c.is_some.ensures c.if-is_some.false c.capacity.ensures c.if-n-capacity.true c.zero_at_depth-zero.ensures)

pub returns-clause-gives : goal.returns-clause-gives
returns-clause-gives c = words.reach_full c.find_set.result c.find_set.ensures c.is_some.ensures c.if-is_some.false c.capacity.ensures c.if-n-capacity.false
