use Rattle.std.proofs.Common.{is_some, sym, ◌∙◌, ap, subst}
use Rattle.book_steps.specs.Reader as Reader
use Rattle.book_reader.specs.Clauses.{words_left, rest, counted, Says}
use Rattle.book_reader.proofs.Saying as saying
use Rattle.book_reader.proofs.instruction.Goals as goal

pub returns-in_err-word : goal.returns-in_err-word
returns-in_err-word c = subst (Says (Reader.parse (rest c.args.c))) (sym c.from_residual.ensures) (saying.says_no_word c.in_err-word.ensures)

pub returns-in_default : goal.returns-in_default
returns-in_default c = saying.says_words c.in_ok-word.ensures (c.alone.ensures (saying.numbers_0 c.in_ok-word.ensures (ap words_left c.in_default.is)))

pub returns-in_err-a : goal.returns-in_err-a
returns-in_err-a c =
    let m = saying.some_more c.in_ok-word.first (ap is_some c.in-Some.is) in
    subst (Says (Reader.parse (rest c.args.c))) (sym c.from_residual-in_err-a.ensures) (saying.bad_first c.in_ok-word.ensures m c.in_err-a.ensures)

pub returns-then-is_none : goal.returns-then-is_none
returns-then-is_none c =
    let m = saying.some_more c.in_ok-word.first (ap is_some c.in-Some.is) in
    saying.says_words c.in_ok-word.ensures (c.with_one.ensures (saying.numbers_1 c.in_ok-word.ensures m c.in_ok-a.ensures (saying.no_more c.in_ok-a.second c.if-is_none.ensures)))

pub returns-in_err-b : goal.returns-in_err-b
returns-in_err-b c =
    let m = saying.some_more c.in_ok-word.first (ap is_some c.in-Some.is) in
    let n = saying.some_more c.in_ok-a.second c.if-is_none.ensures in
    subst (Says (Reader.parse (rest c.args.c))) (sym c.from_residual-in_err-b.ensures) (saying.bad_second c.in_ok-word.ensures m c.in_ok-a.ensures n c.in_err-b.ensures)

pub returns-then-is_none-2 : goal.returns-then-is_none-2
returns-then-is_none-2 c =
    let m = saying.some_more c.in_ok-word.first (ap is_some c.in-Some.is) in
    let n = saying.some_more c.in_ok-a.second c.if-is_none.ensures in
    let p = saying.no_more c.in_ok-b.third c.if-is_none-2.ensures in
    saying.says_words c.in_ok-word.ensures (c.with_two.ensures (saying.numbers_2 c.in_ok-word.ensures m c.in_ok-a.ensures n c.in_ok-b.ensures p))

pub returns-in_err-k : goal.returns-in_err-k
returns-in_err-k c =
    subst (Says (Reader.parse (rest c.args.c))) (sym c.from_residual-in_err-k.ensures) (saying.bad_count c.in_ok-word.ensures (ap counted (ap words_left c.in-Some.is) ∙ c.in_err-k.ensures))

pub returns : goal.returns
returns c =
    let m = saying.some_more c.in_ok-word.first (ap is_some c.in-Some.is) in
    let n = saying.some_more c.in_ok-a.second c.if-is_none.ensures in
    let p = saying.some_more c.in_ok-b.third c.if-is_none-2.ensures in
    saying.says_list c.in_ok-word.ensures m c.in_ok-a.ensures n c.in_ok-b.ensures p (c.with_list.ensures (ap counted (ap words_left c.in-Some.is) ∙ c.in_ok-k.ensures))
