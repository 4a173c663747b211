-- 02 (ii), the calls in code: a run, of a whole book or from an image's place (image_steps, `ran_on`), that is not yet finished; and what it leaves of what is lent, once it is finished.
use Rattle.std.specs.Prelude.{List, ℕ, length, Option, None, Some, Result}
use Rattle.book_steps.specs.Run.{Lent, Came, ran_book}
use Rattle.book_steps.specs.Claim.{Slices, Lends, Refines}
use Rattle.book_memory.specs.declared.Setting.{Setting}
use Rattle.book_memory.specs.declared.Place.{Place}
use Rattle.book_memory.specs.declared.Memory.{Memory}
use Rattle.book_memory.specs.Place.{lengths_of}
use Rattle.book_finish.specs.declared.Stop.{Stop}
use Rattle.book_finish.specs.Clauses as Book
use Rattle.book_run.specs.Clauses.{ComesTo, lent_of, slices_in}
use Rattle.image_steps.specs.Calls.{ran_on, saving, resume}
use Rattle.image_keep.specs.Clauses.{number_of, text_line_of, length_of, image_length_of}
use Rattle.image_calls.specs.Entries.{SavedAs}

abbrev pub PostOn : List ℕ → List ℕ → Place → Result Setting Stop → Place → Type 0
PostOn image book x r y = ComesTo (ran_on (lengths_of x) image book) x r y

-- what a book comes to: a whole one, or one that goes on from an image
abbrev pub came_from : Option (List ℕ) → List ℕ → Lent → Came
came_from None book lent = ran_book lent book
came_from (Some image) book lent = ran_on lent image book

abbrev pub PostFrom : Option (List ℕ) → List ℕ → Place → Result Setting Stop → Place → Type 0
PostFrom from book x r y = ComesTo (came_from from book (lengths_of x)) x r y

-- ---- the calls, where the slices keep their lengths

pub record SavesIn (from : Option (List ℕ)) (book : List ℕ) (m : Memory) (before : List ℕ) (r : Result (ℕ × ℕ) Stop) (n : Memory) (after : List ℕ) : Type 0 where
  pub is : let lent : Lent = lent_of (slices_in m) in Lends lent (slices_in n)
      → SavedAs lent (saving lent (length before) (came_from from book lent)) (slices_in m) before (number_of r) (text_line_of r) (length_of r) (image_length_of r) (slices_in n) after

abbrev pub RefinesBy : (lent : Lent) → (image book : List ℕ) → Slices → Result ℕ Stop → Slices → Type 0
RefinesBy lent image book m r n = Refines (resume lent image book) (Book.number_of r) (Book.text_line_of r) (Book.length_of r) m.output n.output n.sp n.spp n.states
    n.members n.transitions n.pending n.scratch

pub record ResumesIn (image book : List ℕ) (m : Memory) (r : Result ℕ Stop) (n : Memory) : Type 0 where
  pub is : let lent : Lent = lent_of (slices_in m) in Lends lent (slices_in n) → RefinesBy lent image book (slices_in m) r (slices_in n)
