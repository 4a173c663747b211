use mathlib.Core.Path.{sym, ◌∙◌}
use native.Mathlib.Omega.{arith}
use Rattle.aut_operands.proofs.ByKind as by_kind
use Rattle.aut_operands.proofs.operands.Goals as goal

pub returns-in-2 : goal.returns-in-2
returns-in-2 c = by_kind.many_are c.args.part c.kind.ensures c.requires (omega arith) (omega arith) ∙ sym c.list.ensures

pub returns-in-4 : goal.returns-in-4
returns-in-4 c = by_kind.both_are c.args.part c.kind.ensures c.requires (grind arith) (grind arith) (λ e. grind (arith, e))

pub returns-in-6 : goal.returns-in-6
returns-in-6 c = by_kind.first_are c.args.part c.kind.ensures c.requires (omega arith) (omega arith) (λ e. omega (arith, e))

pub returns-in-Epsilon : goal.returns-in-Epsilon
returns-in-Epsilon c = by_kind.epsilon_until c.args.part c.kind.ensures c.requires c.in-11.is c.in-Epsilon.is

pub returns-in-Delta : goal.returns-in-Delta
returns-in-Delta c = by_kind.delta_until c.args.part c.kind.ensures c.requires c.in-11.is c.in-Delta.is

pub returns-in_default : goal.returns-in_default
returns-in_default c = by_kind.none_are c.args.part c.kind.ensures c.requires (λ e. grind (arith, e)) (λ e. grind (arith, e)) (λ e. grind (arith, e)) (λ e. grind (arith, e)) (λ e. grind (arith, e)) (λ e. grind (arith, e)) (λ e. grind (arith, e)) (λ e. grind (arith, e))
