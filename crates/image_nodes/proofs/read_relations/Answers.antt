use native.Mathlib.Omega.{arith}
use Rattle.slices.proofs.Same.{slice_trans}
use Rattle.refusal.proofs.Passed.{passed}
use Rattle.image_nodes.proofs.Rows as its
use Rattle.image_nodes.proofs.read_relations.Goals as goal

pub returns-in_err-read_relation-clause-gives : goal.returns-in_err-read_relation-clause-gives
returns-in_err-read_relation-clause-gives c =
    rw (passed c.from_residual.ensures) (its.nodes_stop its.relations_lawful c.loop-i.invariant.read c.loop-i-test.true (rw c.loop-i.invariant.same_store.fields at c.in_err-read_relation.ensures.gives))

pub loop-i-preserved : goal.loop-i-preserved
loop-i-preserved c = record {
  same_store = record { nodes = slice_trans c.loop-i.invariant.same_store.nodes c.read_relation.ensures.same_store.nodes; fields = cc };
  read = its.nodes_again its.relations_lawful c.loop-i.invariant.read c.loop-i-test.true (omega arith) (rw c.loop-i.invariant.same_store.fields at c.in_ok-read_relation.ensures.gives);
}

pub returns-clause-gives : goal.returns-clause-gives
returns-clause-gives c =
    its.nodes_end its.relations_lawful c.loop-i.invariant.read c.loop-i.auto.i-end c.loop-i-test.false
