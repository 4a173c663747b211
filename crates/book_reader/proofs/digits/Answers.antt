use Rattle.std.proofs.Common.{sym, ap, ◌∙◌, arith}
use Rattle.book_reader.specs.Clauses.{value_of}
use Rattle.book_reader.proofs.Decimal as decimal
use Rattle.book_reader.proofs.digits.Goals as goal

pub loop-b-init : goal.loop-b-init
loop-b-init c = decimal.begin_reading

pub returns-then-not-is_ascii_digit : goal.returns-then-not-is_ascii_digit
returns-then-not-is_ascii_digit c = decimal.no_digit c.loop-b.invariant c.loop-b-test.true (sym c.if-not-is_ascii_digit.ensures.value)

pub returns-in_err-checked_mul : goal.returns-in_err-checked_mul
returns-in_err-checked_mul c =
    decimal.past c.loop-b.invariant c.loop-b-test.true (omega (arith, c.in_err-checked_mul.ensures)) ∙ ap value_of (sym c.from_residual.ensures)

pub returns-in_err-n : goal.returns-in_err-n
returns-in_err-n c =
    decimal.past c.loop-b.invariant c.loop-b-test.true (omega (arith, c.in_ok-checked_mul.ensures, c.from.ensures, c.in_err-n.ensures)) ∙ ap value_of (sym c.from_residual-in_err-n.ensures)

pub loop-b-preserved : goal.loop-b-preserved
loop-b-preserved c =
    decimal.next_digit c.loop-b.invariant c.loop-b-test.true (sym c.if-not-is_ascii_digit.ensures.value) (omega (arith, c.in_ok-checked_mul.ensures, c.from.ensures, c.in_ok-n.ensures)) (omega (arith, c.in_ok-n.ensures))

pub returns : goal.returns
returns c = decimal.all_digits c.loop-b.invariant c.loop-b-test.false
