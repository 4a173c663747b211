-- 02 (ii): "A book continued after a read gets every answer that the uninterrupted run gave, its lent lengths no smaller, unless working out live sets again makes it meet 20 or 24." In words of the calls: `book` is saved with the
-- lengths `lent`, and `more` is continued from its image with lengths `lent'` that are no smaller; beside it `book ++ more` is run with the lengths `lent`. Definitions and statements only.
use Rattle.std.specs.Prelude.{◌≡◌, ◌⊎◌, List, ◌++◌, ℕ, ◌+◌, ◌*◌, ◌-◌, ◌<◌, length, get_or}
use Rattle.common.specs.Outcome.{given}
use Rattle.aut_steps.specs.Tables.{limits01}
use Rattle.aut_query_steps.specs.Tables.{live_of}
use Rattle.book_steps.specs.Run.{Lent, Setting, RunState, instructions, Result, outcome, came, ran_book}
use Rattle.book_longer.specs.Longer.{LongerWords, Front, LongerLent}
use Rattle.image_steps.specs.Read.{read}
use Rattle.image_steps.specs.Calls.{save, resume}
use Rattle.image_continued.specs.Continued.{WorksAgain}

-- ---- every answer

-- The uninterrupted run u was answered: so is the continued one r. What was printed, before and after the cut, is what u printed; relation nodes, members and states by words 0 to 3 are those of u, with zeros behind.
pub record AnsweredOn (u : Result) (before : List ℕ) (r : Result) : Type 0 where
  pub number : r.number ≡ 0
  pub output : before ++ r.output ≡ u.output
  pub relations : LongerWords u.spp r.spp
  pub members : LongerWords u.members r.members
  pub states : (x w : ℕ) → w < 4 → get_or r.states (12 * x + w) 0 ≡ get_or u.states (12 * x + w) 0

-- every answer that u gave, and perhaps more
pub record AllAnswers (u : Result) (before : List ℕ) (r : Result) : Type 0 where
  pub printed : Front u.output (before ++ r.output)
  pub answered : u.number ≡ 0 → AnsweredOn u before r

-- ---- 20 and 24

-- With these lengths `book` comes to p and the image is read as q; and a line of `more` works out in q's run a live set that p's run has stored.
pub record Reworked (lent : Lent) (book image more : List ℕ) : Type 0 where
  pub setting : Setting
  pub p : RunState
  pub q : RunState
  pub comes : ran_book lent book ≡ came setting p
  pub reads : read lent limits01 image ≡ given q 0
  pub again : WorksAgain setting (instructions - length p.lines) more p q

-- The continued run r is refused with 20 or 24. What was printed is the front part of what is printed with these lengths and no interruption.
pub record CutShort (lent : Lent) (book image more before : List ℕ) (r : Result) : Type 0 where
  pub number : (r.number ≡ 20) ⊎ (r.number ≡ 24)
  pub reworked : Reworked lent book image more
  pub printed : Front (before ++ r.output) (outcome lent (book ++ more)).output

-- ---- a book that is continued

module _ (lent lent' : Lent) (size : ℕ) (book more : List ℕ) where
  -- what the book has left, and its image
  abbrev pub saved : Result
  saved = (save lent size book).result

  abbrev pub image : List ℕ
  image = (save lent size book).image

  abbrev pub uninterrupted : Result
  uninterrupted = outcome lent (book ++ more)

  abbrev pub continued : Result
  continued = resume lent' image more

  pub record AnswersKept : Type 0 where
    pub answers : AllAnswers uninterrupted saved.output continued ⊎ CutShort lent' book image more saved.output continued
    -- no live set was stored at the cut
    pub without_live : ((x : ℕ) → live_of saved.states x ≡ 0) → AllAnswers uninterrupted saved.output continued

-- of every book that is answered and saved
abbrev pub AnswersAreKept : Type 0
AnswersAreKept = (lent lent' : Lent) (size : ℕ) (book more : List ℕ) → LongerLent lent lent' → (save lent size book).result.number ≡ 0 → AnswersKept lent lent' size book more
