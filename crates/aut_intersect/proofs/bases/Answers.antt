use mathlib.Core.Path.{refl}
use Rattle.std.proofs.Common.{rules}
use Rattle.aut_intersect.proofs.Turns as turns
use Rattle.aut_intersect.proofs.bases.Goals as goal

pub loop-i-init : goal.loop-i-init
loop-i-init c = turns.begin c.requires (search rules)

pub base-requires : goal.base-requires
base-requires c = turns.turn_asked c.requires c.loop-i.invariant c.loop-i-test.true

pub returns-in_err-z-clause-gives : goal.returns-in_err-z-clause-gives
returns-in_err-z-clause-gives c =
    turns.stuck c.requires c.loop-i.invariant c.loop-i-test.true c.from_residual.ensures c.in_err-z.ensures.keeps c.in_err-z.ensures.gives

pub loop-i-preserved : goal.loop-i-preserved
loop-i-preserved c =
    turns.again c.requires c.loop-i.invariant c.loop-i-test.true c.in_ok-z.ensures.keeps c.in_ok-z.ensures.gives refl refl (search rules)

pub returns-clause-gives : goal.returns-clause-gives
returns-clause-gives c = turns.end c.requires c.loop-i.invariant c.loop-i-test.false
