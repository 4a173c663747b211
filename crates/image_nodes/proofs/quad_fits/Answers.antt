use native.Mathlib.Omega.{arith}
use Rattle.image_nodes.proofs.Depth as its
use Rattle.image_nodes.proofs.quad_fits.Goals as goal

pub relation_depth-d-requires : goal.relation_depth-d-requires
relation_depth-d-requires c = its.inside_r c.requires (omega arith)
