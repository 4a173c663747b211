use mathlib.Core.Path.{sym, ◌∙◌}
use Rattle.std.proofs.Common.{rules}
use Rattle.aut_states.proofs.Scan as scan
use Rattle.aut_states.proofs.States.is_at_list.Goals as goal

pub returns-then-kind : goal.returns-then-kind
returns-then-kind c =
    c.eq.ensures
    ∙ sym (rw c.list.ensures (scan.of_kind c.args.self.now.words.now c.args.members.now.words.now c.args.list.now c.args.kind c.args.i (sym c.kind.ensures ∙ c.if-kind.true)))

pub returns-else-kind : goal.returns-else-kind
returns-else-kind c =
    let e = scan.other_kind c.args.self.now.words.now c.args.members.now.words.now c.args.list.now c.args.kind c.args.i (λ e. c.if-kind.false (c.kind.ensures ∙ e)) in
    rw e (search rules)
