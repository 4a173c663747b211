use Rattle.spp.proofs.SPPstore.+field.Given as goal

abbrev pub decreases-field : goal.decreases-field
decreases-field l = l.depth
