-- 02 (ii), the public calls: what each returns and leaves of the slices that it was lent, and what is claimed of it. "Refused: all tables zero"; an image's bytes past its length are untouched. Definitions and statements only.
use Rattle.std.specs.Prelude.{◌≡◌, List, ℕ, length}
use Rattle.image_steps.specs.Calls as Calls
use Rattle.image_steps.specs.Claims.{ReadsRight, Unread, OwnIsRead, DamageIsRefused, ResumeClaim, SaveClaim, ResumeSaveClaim}
use Rattle.image_continued.specs.Answers.{AnswersAreKept}
use Rattle.std.proofs.Math.Option.{Option}
use Rattle.aut_steps.specs.Tables.{Limits}
use Rattle.book_steps.specs.Reader.{Instruction}
use Rattle.book_steps.specs.Conditions.{ReadSpec, Conditions}
use Rattle.book_steps.specs.Run.{Lent}
use Rattle.book_steps.specs.RunSpec.{PrintedSpec}
use Rattle.book_steps.specs.Claim.{Slices, Lends, WritesOnly, Refines, Claim}

-- what holds of all images, whichever call
pub record ImagesSpec : Type 0 where
  pub reads : ReadsRight
  pub unread : Unread
  pub own : OwnIsRead
  pub damage : DamageIsRefused
  pub answers : AnswersAreKept

-- what a book's claim says of every line, whatever place the run begins at: how lines are read, what answers print, when each number is returned
pub record LinesSpec : Type 0 where
  pub reads : (N : ℕ) (lines : List (Option ℕ)) (s : Instruction) → ReadSpec N lines s
  pub printed : PrintedSpec
  pub conditions : (N : ℕ) (L : Limits) → Conditions N L

-- `resume` with `image` and `book`, of the slices m
pub record ResumeEntry (lent : Lent) (image book : List ℕ) (m : Slices) (number line len : ℕ) (n : Slices) : Type 0 where
  pub lends : Lends lent m
  pub refines : Refines (Calls.resume lent image book) number line len m.output n.output n.sp n.spp n.states
      n.members n.transitions n.pending n.scratch
  pub leaves : Lends lent n
  pub claim : ResumeClaim lent image book
  pub lines : LinesSpec
  pub images : ImagesSpec

-- what a call that writes an image leaves: s, of the slices m and the bytes `before` lent for the image
pub record SavedAs (lent : Lent) (s : Calls.Saved lent) (m : Slices) (before : List ℕ) (number line len image-len : ℕ) (n : Slices) (after : List ℕ) : Type 0 where
  pub lends : Lends lent m
  pub refines : Refines s.result number line len m.output n.output n.sp n.spp n.states
      n.members n.transitions n.pending n.scratch
  pub leaves : Lends lent n
  pub image_length : image-len ≡ length s.image
  pub image_is : WritesOnly s.image before after

pub record SaveEntry (lent : Lent) (book : List ℕ) (m : Slices) (before : List ℕ) (number line len image-len : ℕ) (n : Slices) (after : List ℕ) : Type 0 where
  pub saved : SavedAs lent (Calls.save lent (length before) book) m before number line len image-len n after
  pub claim : SaveClaim lent (length before) book
  pub book_claim : Claim lent book
  pub images : ImagesSpec

pub record ResumeSaveEntry (lent : Lent) (image book : List ℕ) (m : Slices) (before : List ℕ) (number line len image-len : ℕ) (n : Slices) (after : List ℕ) : Type 0 where
  pub saved : SavedAs lent (Calls.resume_save lent (length before) image book) m before number line len image-len n after
  pub claim : ResumeSaveClaim lent (length before) image book
  pub resume_claim : ResumeClaim lent image book
  pub lines : LinesSpec
  pub images : ImagesSpec
