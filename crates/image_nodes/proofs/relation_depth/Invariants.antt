use Prim.Native.Nat.{ℕ, ◌+◌, ◌<◌}
use Rattle.spp_steps.specs.Wf as SppWf
use Rattle.image_steps.specs.Records as Records
use Rattle.image_nodes.specs.Clauses.{InsideR}
use Rattle.image_nodes.proofs.Depth.{DepthAt}
use Rattle.image_nodes.proofs.relation_depth.Given as goal

abbrev pub invariant-loop-d : goal.invariant-loop-d
invariant-loop-d l = record {
  depth : DepthAt (Records.depth_of_r l.nodes) l.n l.h l.d l.x;
  inside : InsideR l.nodes l.x;
  within : (count : ℕ) → SppWf.Rising l.nodes count → l.h < count + 2 → l.x < count + 2;
}
