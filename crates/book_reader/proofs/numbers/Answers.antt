use Rattle.std.proofs.Common.{suc, ◌+◌, ◌≤◌, length, ◌∙◌, sym, ap, arith, rules}
use Rattle.book_steps.specs.Text.{words}
use Rattle.book_reader.specs.Clauses.{rest, value_of}
use Rattle.book_reader.proofs.Parts.{words_few}
use Rattle.book_reader.proofs.Saying as saying
use Rattle.book_reader.proofs.numbers.Goals as goal

pub loop-c-init : goal.loop-c-init
loop-c-init c = saying.begin_count (words c.args.line.now)

pub returns-in_err-c : goal.returns-in_err-c
returns-in_err-c c =
    saying.not_all c.loop-c.invariant (saying.some_more c.loop-c.c (sym c.is_some.ensures ∙ c.loop-c-test.true)) c.in_err-c.ensures ∙ ap value_of (sym c.from_residual.ensures)

pub overflow_add-k : goal.overflow_add-k
overflow_add-k c =
    let few : c.loop-c.k + 1 ≤ suc (length c.args.line.now) = omega (arith, c.loop-c.invariant.room, words_few c.args.line.now, saying.fewer (rest c.loop-c.c) c.in_ok-c.ensures) in
    search rules

pub loop-c-smaller : goal.loop-c-smaller
loop-c-smaller c = omega (arith, saying.fewer (rest c.loop-c.c) c.in_ok-c.ensures)

pub loop-c-preserved : goal.loop-c-preserved
loop-c-preserved c = saying.one_more c.loop-c.invariant c.in_ok-c.ensures

pub returns : goal.returns
returns c = saying.all_counted c.loop-c.invariant (saying.no_more c.loop-c.c (sym c.is_some.ensures ∙ c.loop-c-test.false))
