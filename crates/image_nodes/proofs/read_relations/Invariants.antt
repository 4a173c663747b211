use Prim.Native.Nat.{◌+◌, ◌*◌}
use Rattle.spp.specs.Clauses.{store_of, SameStore}
use Rattle.image_nodes.specs.Clauses.{relations}
use Rattle.image_nodes.proofs.Rows as its
use Rattle.image_nodes.proofs.read_relations.Given as goal

abbrev pub invariant-loop-i : goal.invariant-loop-i
invariant-loop-i l = record {
  same_store : SameStore l.initial.relations l.relations;
  read : its.NodesAt relations l.image l.initial.relations.fields l.start l.k (store_of l.initial.relations) l.i (l.start + 4 * l.i) (store_of l.relations);
}
