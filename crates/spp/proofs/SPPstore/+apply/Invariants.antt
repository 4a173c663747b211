use Rattle.spp.proofs.SPPstore.+apply.Given as goal

abbrev pub decreases-apply : goal.decreases-apply
decreases-apply l = l.depth
