use Rattle.spp_sequence.proofs.+star.Given as goal

abbrev pub decreases-star : goal.decreases-star
decreases-star l = l.depth
