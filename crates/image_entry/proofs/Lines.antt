-- The text line of a refusal fits into the struct for the calls of images too, since their instructions count on; and what holds of the numbers that a call returns holds of the struct's.
use Rattle.std.specs.Prelude.{if◌then◌else◌, Ok, Err}
use Rattle.std.specs.Prelude as code
use mathlib.Core.Path.{◌≡◌, sym, subst}
use mathlib.Core.Bool.{Bool, true, false, ◌||◌}
use mathlib.Core.List.{List, []}
use Prim.Native.Nat.{ℕ, ◌*◌, ◌-◌, ◌≤◌}
use native.Mathlib.Omega.{arith}
use lib.Dec.{ltb}
use lib.ListN.{length}
use Rattle.common.specs.Outcome.{Outcome, refused, given}
use Rattle.aut_steps.specs.Tables.{limits01}
use Rattle.book_steps.specs.Run.{Lent, Setting, RunState, run, setting_of, Result, refusal, success, Came, came, failed, ran_book, finished}
use Rattle.book_steps.specs.Claim.{Slices}
use Rattle.book_steps.proofs.Finished.{finished_run, book_finished}
use Rattle.book_steps.proofs.LineNumbers.{run_line, outcome_line}
use Rattle.book_finish.specs.Clauses as Run
use Rattle.book_finish.specs.declared.Stop.{Stop}
use Rattle.netcheck_entry.specs.Outcome.{lent_of}
use Rattle.netcheck_entry.specs.Outcome.{outcome_of}
use Rattle.netcheck_entry.specs.declared.Outcome as Struct
use Rattle.netcheck_entry.proofs.Lines.{of_fields}
use Rattle.image_steps.specs.Image.{head_of, blocks_of, saved}
use Rattle.image_steps.specs.Read.{read}
use Rattle.image_steps.specs.Calls as Calls
use Rattle.image_steps.specs.Calls.{has_next, header_at, goes_on, ran_on, saving}
use Rattle.image_keep.specs.Clauses.{number_of, text_line_of, length_of, image_length_of}
use Rattle.image_calls.specs.Entries.{SaveEntry, ResumeEntry, ResumeSaveEntry}
use Rattle.image_entry.specs.declared.SavedOutcome.{SavedOutcome}
use Rattle.image_entry.specs.Outcome.{saved_outcome_of, SavedBy, Resumed, ResumeSavedBy}

module _ (lent : Lent) where
  goes_on_line : (S : Setting) (book : List ℕ) (o : Outcome RunState ℕ) → (finished lent (goes_on lent S book o)).line ≤ 2050
  goes_on_line S book (refused e) = omega arith
  goes_on_line S book (given p x) =
      let left : ℕ = 2048 - length p.lines in
      subst (λ (r : Result). r.line ≤ 2050) (sym (finished_run lent S (run S left book 1 p))) (omega (arith, run_line lent S left book 1 p))

  on_line : (image book : List ℕ) → (finished lent (ran_on lent image book)).line ≤ 2050
  unfolding ran_on
  on_line image book = by_scratch (ltb lent.scratch 6144)
    where
      by_scratch : (b : Bool) → (finished lent (if b then failed 26 0 [] else goes_on lent (setting_of lent (header_at lent image)) book (read lent limits01 image))).line ≤ 2050
      by_scratch true = omega arith
      by_scratch false = goes_on_line (setting_of lent (header_at lent image)) book (read lent limits01 image)

  -- an image that is not written is refused with line 0
  saving_line : (size : ℕ) (c : Came) → (finished lent c).line ≤ 2050 → (saving lent size c).result.line ≤ 2050
  saving_line size (failed e k out) l = l
  saving_line size (came S p) l =
      by_tests (has_next p.tables.base.aut.states.words p.tables.base.aut.states.count) (ltb 65536 (blocks_of (head_of S p)) || ltb size (512 * blocks_of (head_of S p)))
    where
      by_tests : (a b : Bool)
          → (if◌then◌else◌ {A = Calls.Saved lent} a (record { result = refusal lent 33 0 p.output; image = [] })
          (if◌then◌else◌ {A = Calls.Saved lent} b (record { result = refusal lent 27 0 p.output; image = [] }) (record { result = success lent p; image = saved S p }))).result.line ≤ 2050
      by_tests true b = omega arith
      by_tests false true = omega arith
      by_tests false false = omega arith

  save_line : (size : ℕ) (book : List ℕ) → (Calls.save lent size book).result.line ≤ 2050
  unfolding Calls.save
  save_line size book = saving_line size (ran_book lent book) (subst (λ (r : Result). r.line ≤ 2050) (sym (book_finished lent book)) (outcome_line lent book))

  resume_line : (image book : List ℕ) → (Calls.resume lent image book).line ≤ 2050
  unfolding Calls.resume
  resume_line image book = on_line image book

  resume_save_line : (size : ℕ) (image book : List ℕ) → (Calls.resume_save lent size image book).result.line ≤ 2050
  unfolding Calls.resume_save
  resume_save_line size image book = saving_line size (ran_on lent image book) (on_line image book)

-- ---- what the entries hand on

module _ (P : (number line len image : ℕ) → Type 0) where
  by_case : (s : code.Result (ℕ × ℕ) Stop) → P (number_of s) (text_line_of s) (length_of s) (image_length_of s) → P (saved_outcome_of s).number (saved_outcome_of s).line (saved_outcome_of s).length (saved_outcome_of s).image
  by_case (Ok (n, i)) h = h
  by_case (Err s) h = h

  of_saved : (s : code.Result (ℕ × ℕ) Stop) {r : SavedOutcome} → r ≡ saved_outcome_of s → P (number_of s) (text_line_of s) (length_of s) (image_length_of s) → P r.number r.line r.length r.image
  of_saved s q h = subst (λ (o : SavedOutcome). P o.number o.line o.length o.image) (sym q) (by_case s h)

module _ {m n : Slices} {book before after : List ℕ} (s : code.Result (ℕ × ℕ) Stop) where
  pub save_fits : SaveEntry (lent_of m) book m before (number_of s) (text_line_of s) (length_of s) (image_length_of s) n after → text_line_of s ≤ 2050
  save_fits e = omega (arith, e.saved.refines.line_is, save_line (lent_of m) (length before) book)

  pub saved_by : {r : SavedOutcome} → r ≡ saved_outcome_of s → SaveEntry (lent_of m) book m before (number_of s) (text_line_of s) (length_of s) (image_length_of s) n after → SavedBy book m before r n after
  saved_by = of_saved (λ (number line len image : ℕ). SaveEntry (lent_of m) book m before number line len image n after) s

  module _ {image : List ℕ} where
    pub resume_save_fits : ResumeSaveEntry (lent_of m) image book m before (number_of s) (text_line_of s) (length_of s) (image_length_of s) n after → text_line_of s ≤ 2050
    resume_save_fits e = omega (arith, e.saved.refines.line_is, resume_save_line (lent_of m) (length before) image book)

    pub resume_saved_by : {r : SavedOutcome} → r ≡ saved_outcome_of s → ResumeSaveEntry (lent_of m) image book m before (number_of s) (text_line_of s) (length_of s) (image_length_of s) n after
        → ResumeSavedBy image book m before r n after
    resume_saved_by = of_saved (λ (number line len size : ℕ). ResumeSaveEntry (lent_of m) image book m before number line len size n after) s

module _ {m n : Slices} {image book : List ℕ} (ran : code.Result ℕ Stop) where
  pub resume_fits : ResumeEntry (lent_of m) image book m (Run.number_of ran) (Run.text_line_of ran) (Run.length_of ran) n → Run.text_line_of ran ≤ 2050
  resume_fits e = omega (arith, e.refines.line_is, resume_line (lent_of m) image book)

  pub resumed : {r : Struct.Outcome} → r ≡ outcome_of ran → ResumeEntry (lent_of m) image book m (Run.number_of ran) (Run.text_line_of ran) (Run.length_of ran) n → Resumed image book m r n
  resumed = of_fields (λ (number line len : ℕ). ResumeEntry (lent_of m) image book m number line len n) ran
