-- 02 (ii), the calls as C gets them: the number (0: answered), the text line and the output's length as for a run, and where an image is written its length, 0 where it is refused.
use Rattle.std.specs.Prelude.{List, ℕ, Result, Ok, Err}
use Rattle.refusal.specs.Numbers.{number_of}
use Rattle.book_steps.specs.Claim.{Slices}
pub use Rattle.netcheck_entry.specs.Outcome.{lent_of, slices}
use Rattle.netcheck_entry.specs.declared.Outcome.{Outcome}
use Rattle.image_calls.specs.Entries.{SaveEntry, ResumeEntry, ResumeSaveEntry}
use Rattle.book_finish.specs.declared.Stop.{Stop}
use Rattle.image_entry.specs.declared.SavedOutcome.{SavedOutcome}

-- the answer for each case
abbrev pub saved_outcome_of : Result (ℕ × ℕ) Stop → SavedOutcome
saved_outcome_of (Ok (n, i)) = record { number = 0; line = 0; length = n; image = i }
saved_outcome_of (Err s) = record { number = number_of s.refusal; line = s.line; length = s.length; image = 0 }

-- ---- the entries' promises, of the structs' fields; m, n are the lent slices before and after, `before`, `after` the bytes lent for an image

abbrev pub SavedBy : (book : List ℕ) (m : Slices) (before : List ℕ) → SavedOutcome → (n : Slices) (after : List ℕ) → Type 0
SavedBy book m before r n after = SaveEntry (lent_of m) book m before r.number r.line r.length r.image n after

abbrev pub Resumed : (image book : List ℕ) (m : Slices) → Outcome → (n : Slices) → Type 0
Resumed image book m r n = ResumeEntry (lent_of m) image book m r.number r.line r.length n

abbrev pub ResumeSavedBy : (image book : List ℕ) (m : Slices) (before : List ℕ) → SavedOutcome → (n : Slices) (after : List ℕ) → Type 0
ResumeSavedBy image book m before r n after = ResumeSaveEntry (lent_of m) image book m before r.number r.line r.length r.image n after
