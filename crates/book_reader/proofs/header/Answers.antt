use Rattle.std.proofs.Common.{refl, ◌∙◌, sym, ap}
use Rattle.book_reader.specs.Clauses.{rest, heading_of}
use Rattle.book_reader.proofs.Saying as saying
use Rattle.book_reader.proofs.header.Goals as goal

pub returns-in_err-c1 : goal.returns-in_err-c1
returns-in_err-c1 c = saying.no_fields (rest c.args.c) c.in_err-c1.ensures ∙ ap heading_of (sym c.from_residual.ensures)

pub returns-in_err-n : goal.returns-in_err-n
returns-in_err-n c = saying.no_n (rest c.args.c) c.in_ok-c1.ensures c.in_err-n.ensures ∙ ap heading_of (sym c.from_residual-in_err-n.ensures)

pub returns-in_err-c3 : goal.returns-in_err-c3
returns-in_err-c3 c = saying.no_budget (rest c.args.c) c.in_ok-c1.ensures c.in_ok-n.ensures c.in_err-c3.ensures ∙ ap heading_of (sym c.from_residual-in_err-c3.ensures)

pub returns-in_err-m : goal.returns-in_err-m
returns-in_err-m c =
    saying.no_m (rest c.args.c) c.in_ok-c1.ensures c.in_ok-n.ensures c.in_ok-c3.ensures c.in_err-m.ensures ∙ ap heading_of (sym c.from_residual-in_err-m.ensures)

pub returns : goal.returns
returns c =
    saying.ends_header (rest c.args.c) c.in_ok-c1.ensures c.in_ok-n.ensures c.in_ok-c3.ensures c.in_ok-m.ensures c.in_ok-m.c4 refl _ c.is_none.ensures c.then_some.ensures
