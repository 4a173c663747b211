use Rattle.spp_least.proofs.+least.Given as goal

abbrev pub decreases-least : goal.decreases-least
decreases-least l = l.depth
