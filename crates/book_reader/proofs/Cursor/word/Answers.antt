use Rattle.std.proofs.Common.{◌≡◌, ◌∷◌, ◌∙◌, ap, sym, subst}
use Rattle.book_steps.specs.Text.{words}
use Rattle.book_reader.specs.Clauses.{words_left}
use Rattle.book_reader.proofs.Parts as parts
use Rattle.book_reader.proofs.Cursor.word.Goals as goal
use Rattle.book_reader.proofs.Cursor.word.Goals.{in-Some, in-None}

pub returns : goal.returns
returns c =
    let line = c.in_ok-line.line.now in
    ap words_left c.in_ok-line.was ∙ elim c.match-find.branch [
      | in-Some w ↦ let e = w.in-Some.ensures in subst (λ t. words line ≡ t.0.now ∷ words_left t.1) (sym w.t-13-is) (parts.next_word line e.0 e.1)
      | in-None w ↦ subst (λ t. words line ≡ t.0.now ∷ words_left t.1) (sym w.t-13-is) (parts.words_last line w.in-None.ensures)
    ]
