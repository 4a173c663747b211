use mathlib.Core.Path.{sym, ◌∙◌}
use Rattle.refusal.proofs.Passed.{passed}
use Rattle.aut_empty_turn.proofs.Turns as turns
use Rattle.aut_empty_turn.proofs.turn.Goals as goal

pub take-e-requires : goal.take-e-requires
take-e-requires c = turns.top_in c.requires

pub seen_at-seen-requires : goal.seen_at-seen-requires
seen_at-seen-requires c =
    let t = c.take-e.ensures in
    turns.seen_asks c.requires t.keeps t.states t.gives

pub difference-requires : goal.difference-requires
difference-requires c =
    let t = c.take-e.ensures in
    turns.difference_asks c.requires t.keeps t.states t.gives c.seen_at-seen.ensures

pub returns-in_err-fresh-clause-gives : goal.returns-in_err-fresh-clause-gives
returns-in_err-fresh-clause-gives c =
    let t = c.take-e.ensures in
    let d = c.in_err-fresh.ensures in
    turns.turn_stuck c.requires t.keeps t.states t.gives c.seen_at-seen.ensures d.keeps (passed c.from_residual.ensures) d.gives

pub returns-then-is_zero-clause-gives : goal.returns-then-is_zero-clause-gives
returns-then-is_zero-clause-gives c =
    let t = c.take-e.ensures in
    let d = c.in_ok-fresh.ensures in
    turns.turn_zero c.requires t.keeps t.states t.gives c.seen_at-seen.ensures d.keeps d.gives (sym c.if-is_zero.true ∙ c.is_zero.ensures)

pub expand-requires : goal.expand-requires
expand-requires c =
    let t = c.take-e.ensures in
    let d = c.in_ok-fresh.ensures in
    turns.expand_asks c.requires t.keeps t.states t.gives c.seen_at-seen.ensures d.keeps d.gives

pub returns-clause-gives : goal.returns-clause-gives
returns-clause-gives c =
    let t = c.take-e.ensures in
    let d = c.in_ok-fresh.ensures in
    turns.turn_expand c.requires t.keeps t.states t.gives c.seen_at-seen.ensures d.keeps d.gives (sym c.if-is_zero.false ∙ c.is_zero.ensures) c.expand.result c.expand.ensures.gives
