use Prim.Native.Nat.{ℕ, ◌/◌, ◌≤◌}
use Rattle.sp_steps.specs.Wf as SpWf
use Rattle.image_steps.specs.Records as Records
use Rattle.image_nodes.specs.Clauses.{Inside}
use Rattle.image_nodes.proofs.Depth.{DepthAt}
use Rattle.image_nodes.proofs.depth_of.Given as goal

abbrev pub invariant-loop-d : goal.invariant-loop-d
invariant-loop-d l = record {
  depth : DepthAt (Records.depth_of l.sp) l.n l.h l.d l.x;
  inside : Inside l.sp l.x;
  within : (count : ℕ) → SpWf.Rising l.sp count → l.h / 2 ≤ count → l.x / 2 ≤ count;
}
