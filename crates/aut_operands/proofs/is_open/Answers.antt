use mathlib.Core.Path.{◌∙◌}
use Rattle.aut_operands.proofs.ByKind as by_kind
use Rattle.aut_operands.proofs.is_open.Goals as goal

pub returns-then-kind-ne-SPP : goal.returns-then-kind-ne-SPP
returns-then-kind-ne-SPP c = rw c.word.ensures (by_kind.epsilon_told c.args.states.now.words.now c.args.y c.in-Epsilon.is (λ e. c.if-kind-ne-SPP.true (c.kind.ensures ∙ e)))

pub returns-in-Delta : goal.returns-in-Delta
returns-in-Delta c = rw c.word-in-Delta.ensures (by_kind.count_told c.args.states.now.words.now c.args.y c.in-Delta.is)
