use native.Mathlib.Omega.{arith}
use Rattle.slices.proofs.Same.{slice_trans}
use Rattle.refusal.proofs.Passed.{passed}
use Rattle.image_nodes.proofs.Rows as its
use Rattle.image_nodes.proofs.read_nodes.Goals as goal

pub returns-in_err-read_node-clause-gives : goal.returns-in_err-read_node-clause-gives
returns-in_err-read_node-clause-gives c =
    rw (passed c.from_residual.ensures) (its.nodes_stop its.packets_lawful c.loop-i.invariant.read c.loop-i-test.true c.in_err-read_node.ensures.gives)

pub loop-i-preserved : goal.loop-i-preserved
loop-i-preserved c = record {
  same_table = slice_trans c.loop-i.invariant.same_table c.read_node.ensures.same_table;
  read = its.nodes_again its.packets_lawful c.loop-i.invariant.read c.loop-i-test.true (omega arith) c.in_ok-read_node.ensures.gives;
}

pub returns-clause-gives : goal.returns-clause-gives
returns-clause-gives c =
    its.nodes_end its.packets_lawful c.loop-i.invariant.read c.loop-i.auto.i-end c.loop-i-test.false
