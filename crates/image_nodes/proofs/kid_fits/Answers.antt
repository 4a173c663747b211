use native.Mathlib.Omega.{arith}
use Rattle.image_nodes.proofs.Depth as its
use Rattle.image_nodes.proofs.kid_fits.Goals as goal

pub relation_depth-requires : goal.relation_depth-requires
relation_depth-requires c = its.inside_r c.requires (omega arith)
