use Prim.Native.Nat.{◌*◌}
use Rattle.slices.specs.Same.{SameSlice}
use Rattle.sp.specs.Clauses.{store_of}
use Rattle.image_nodes.specs.Clauses.{packets}
use Rattle.image_nodes.proofs.Rows as its
use Rattle.image_nodes.proofs.read_nodes.Given as goal

abbrev pub invariant-loop-i : goal.invariant-loop-i
invariant-loop-i l = record {
  same_table : SameSlice l.initial.sets.nodes l.sets.nodes;
  read : its.NodesAt packets l.image l.fields 0 l.k (store_of l.initial.sets) l.i (2 * l.i) (store_of l.sets);
}
