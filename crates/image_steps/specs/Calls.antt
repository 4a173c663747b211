-- 02 (ii), the calls: `save` runs a book and writes its image; `resume` reads an image and runs a book that goes on from it; `resume_save` does both. "An image above 65,536 blocks, or longer than its output, meets 27, line 0,
-- before any byte. The continued book has no header line, prints no `fields`, and its instructions count on." 26 comes first in each. 02 (iv): "Images of (ii) do not know kind 10: it refuses with 33, line 0, before 27, when one is wanted of tables that hold
-- this kind."
use Rattle.std.specs.Prelude.{Bool, false, ◌||◌, List, [], ℕ, zero, suc, ◌+◌, ◌*◌, ◌-◌, eqb, ltb, length, if◌then◌else◌}
use Rattle.common.specs.Outcome.{Outcome, refused, given}
use Rattle.aut_steps.specs.Tables.{NEXT, kind_of, limits01}
use Rattle.book_steps.specs.Reader.{Header}
use Rattle.book_steps.specs.Run.{Lent, Setting, RunState, run, instructions, setting_of, Result, refusal, success, Came, came, failed, came_of, ran_book, finished}
use Rattle.image_steps.specs.Image.{head_of, blocks_of, saved}
use Rattle.image_steps.specs.Read.{head_at, read}

-- one of the first n states is of kind 10
unfoldable pub has_next : List ℕ → ℕ → Bool
has_next st zero = false
has_next st (suc n) = eqb (kind_of st n) NEXT || has_next st n

module _ (lent : Lent) where
  -- a book that goes on from an image: text line 1 is its first line
  abbrev pub header_at : List ℕ → Header
  header_at image = record { fields = (head_at image).fields; budget = (head_at image).budget }

  abbrev pub goes_on : Setting → List ℕ → Outcome RunState ℕ → Came
  goes_on S book (refused e) = failed e 0 []
  goes_on S book (given p x) = came_of S (run S (instructions - length p.lines) book 1 p)

  unfoldable pub ran_on : (image book : List ℕ) → Came
  ran_on image book =
      if ltb lent.scratch 6144 then failed 26 0 []
      else goes_on (setting_of lent (header_at image)) book (read lent limits01 image)

  -- ---- what is left

  -- the result, and the image's bytes; none where it is refused
  pub record Saved : Type 0 where
    pub result : Result
    pub image : List ℕ

  -- `size` bytes are lent for the image
  abbrev pub saving : (size : ℕ) → Came → Saved
  saving size (failed e k out) = record { result = refusal lent e k out; image = [] }
  saving size (came S p) =
      if has_next p.tables.base.aut.states.words p.tables.base.aut.states.count
      then record { result = refusal lent 33 0 p.output; image = [] }
      else if ltb 65536 (blocks_of (head_of S p)) || ltb size (512 * blocks_of (head_of S p))
      then record { result = refusal lent 27 0 p.output; image = [] }
      else record { result = success lent p; image = saved S p }

  unfoldable pub save : (size : ℕ) → (book : List ℕ) → Saved
  save size book = saving size (ran_book lent book)

  unfoldable pub resume : (image book : List ℕ) → Result
  resume image book = finished lent (ran_on image book)

  unfoldable pub resume_save : (size : ℕ) → (image book : List ℕ) → Saved
  resume_save size image book = saving size (ran_on image book)
