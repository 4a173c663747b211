use mathlib.Core.Path.{refl}
use native.Mathlib.Omega.{arith}
use Rattle.refusal.proofs.Passed.{passed}
use Rattle.spp.specs.Clauses.{op_of}
use Rattle.aut_epsilon.proofs.Together as together
use Rattle.aut_epsilon.proofs.combine_each.Goals as goal

pub loop-i-init : goal.loop-i-init
loop-i-init c = together.begin (op_of c.args.op) c.requires

pub value-b-requires : goal.value-b-requires
value-b-requires c = together.readable (together.value_at (op_of c.args.op) c.requires c.loop-i.invariant c.loop-i-test.true)

pub apply-requires : goal.apply-requires
apply-requires c = together.apply_ready (op_of c.args.op) c.requires c.loop-i.invariant c.loop-i-test.true c.value-b.ensures

pub returns-in_err-g-clause-gives : goal.returns-in_err-g-clause-gives
returns-in_err-g-clause-gives c = together.stuck (op_of c.args.op) c.requires c.loop-i.invariant c.loop-i-test.true c.value-b.ensures c.in_err-g.ensures.gives (passed c.from_residual.ensures)

pub loop-i-preserved : goal.loop-i-preserved
loop-i-preserved c = together.again (op_of c.args.op) c.requires c.loop-i.invariant c.loop-i-test.true c.value-b.ensures c.in_ok-g.ensures.keeps c.in_ok-g.ensures.gives

pub returns-clause-gives : goal.returns-clause-gives
returns-clause-gives c = together.end (op_of c.args.op) c.requires c.loop-i.invariant (omega (arith, c.loop-i-test.false)) refl
