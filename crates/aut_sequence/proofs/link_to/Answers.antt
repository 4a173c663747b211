use Rattle.std.proofs.Common.{rules}
use Rattle.aut_sequence.proofs.Chain as chain
use Rattle.aut_sequence.proofs.link_to.Goals as goal

pub loop-w-init : goal.loop-w-init
loop-w-init c = chain.linked c.requires

pub second-requires : goal.second-requires
second-requires c = chain.walked_in c.loop-w.invariant.walked

pub second-w-requires : goal.second-w-requires
second-w-requires c = chain.walked_in c.loop-w.invariant.walked

pub loop-w-smaller : goal.loop-w-smaller
loop-w-smaller c = chain.link_less c.loop-w.invariant c.second-w.ensures

pub loop-w-preserved : goal.loop-w-preserved
loop-w-preserved c = search (rules, chain.link_on c.loop-w.invariant c.second-w.ensures c.second.ensures)
