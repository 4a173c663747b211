use Rattle.spp_image.proofs.+lead.Given as goal

abbrev pub decreases-lead : goal.decreases-lead
decreases-lead l = l.depth
