use Prim.Native.Nat.{◌+◌, ◌*◌}
use Rattle.spp_sequence.proofs.+row_sequence.Given as goal

abbrev pub decreases-row : goal.decreases-row
decreases-row l = 2 * l.depth + 1

abbrev pub decreases-sequence : goal.decreases-sequence
decreases-sequence l = 2 * l.depth
