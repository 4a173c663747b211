use Rattle.spp_image.proofs.+project.Given as goal

abbrev pub decreases-project : goal.decreases-project
decreases-project l = l.depth
