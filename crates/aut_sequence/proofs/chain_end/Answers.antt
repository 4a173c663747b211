use mathlib.Core.Path.{sym, ◌∙◌}
use Rattle.aut_sequence.proofs.Chain as chain
use Rattle.aut_sequence.proofs.chain_end.Goals as goal

pub loop-e-init : goal.loop-e-init
loop-e-init c = chain.walked c.requires

pub kind-requires : goal.kind-requires
kind-requires c = chain.walked_in c.loop-e.invariant

pub second-e-requires : goal.second-e-requires
second-e-requires c = chain.walked_in c.loop-e.invariant

pub loop-e-smaller : goal.loop-e-smaller
loop-e-smaller c = chain.walked_less c.loop-e.invariant (sym c.kind.ensures ∙ c.loop-e-test.true) c.second-e.ensures

pub loop-e-preserved : goal.loop-e-preserved
loop-e-preserved c = chain.walked_on c.loop-e.invariant (sym c.kind.ensures ∙ c.loop-e-test.true) c.second-e.ensures

pub returns : goal.returns
returns c = chain.walked_end c.loop-e.invariant c.kind.ensures c.loop-e-test.false
