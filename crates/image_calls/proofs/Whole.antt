-- 02 (ii), the calls: a book that goes on from an image, and from zeroed tables to what each call returns and leaves, with what is claimed of it.
use Rattle.std.specs.Prelude.{if◌then◌else◌, Result, Ok, Err}
use Rattle.std.specs.Prelude as code
use Rattle.std.specs.Result.{IsErr, IsErrAnd}
use mathlib.Core.Path.{◌≡◌, refl, sym, ◌∙◌, ap, ap₂, subst}
use mathlib.Core.Bool.{Bool}
use mathlib.Core.List.{List, [], ◌++◌}
use Prim.Native.Nat.{ℕ, ◌+◌, ◌-◌, ◌/◌, ◌≤◌, ◌<◌}
use native.Mathlib.Omega.{arith}
use lib.Dec.{ltb}
use lib.ListN.{length, get_or}
use borrow.Author.Tests.{lt-ltb, le-ltb}
use Rattle.aut_steps.specs.Tables.{limits01}
use Rattle.refusal.specs.declared.Refusal.{Refusal}
use Rattle.refusal.specs.declared.Refusal.TheVariants.{Scratch}
use Rattle.refusal.specs.Numbers.{outcome}
use Rattle.refusal.proofs.Passed.{passed}
use Rattle.book_steps.specs.Run as Run
use Rattle.book_steps.specs.Run.{Lent, Came, failed, came_of, finished}
use Rattle.book_steps.specs.Claim.{Slices, Lends, Refines}
use Rattle.book_steps.proofs.Claim.{claim as claim-of}
use Rattle.book_memory.specs.declared.Setting.{Setting}
use Rattle.book_memory.specs.declared.Place.{Place}
use Rattle.book_memory.specs.declared.Memory.{Memory}
use Rattle.book_memory.specs.Place.{setting_of, setting_in, place_in, lengths_of, memory_of, SameSlices, Standing, Empty}
use Rattle.book_memory.proofs.Table.{lines_length}
use Rattle.book_finish.specs.declared.Stop.{Stop}
use Rattle.book_finish.specs.Clauses as Book
use Rattle.book_finish.specs.Clauses.{Wrote, written_by, came_by, ran_of, PostFinish}
use Rattle.book_run.specs.Clauses.{ComesTo, went_of, PreGo, PostGo}
use Rattle.book_run.proofs.Whole.{slices_at, lends_own, left_is, came_is, wrote_is, comes_to, of_slices}
use Rattle.image_form.specs.Damage.{Bytes}
use Rattle.image_steps.specs.Read.{read}
use Rattle.image_steps.specs.Calls as Calls
use Rattle.image_steps.specs.Calls.{Saved, saving, goes_on, ran_on}
use Rattle.image_steps.specs.Claims as Claims
use Rattle.image_steps.proofs.Claims.{reads_right, unread, damage_refused, resume_claim, save_claim, resume_save_claim, own_read}
use Rattle.image_continued.proofs.Answers.{answers_kept}
use Rattle.image_read.specs.Clauses.{Beside, PostRead}
use Rattle.image_read.proofs.Whole.{read_itself, stands_itself}
use Rattle.image_read.specs.Clauses as Image
use Rattle.image_keep.specs.Clauses.{with_image, image_length, Keeps, sealed_of, PostSeal, number_of, text_line_of, length_of, image_length_of}
use Rattle.image_calls.specs.Entries.{ImagesSpec, LinesSpec, ResumeEntry, SavedAs, SaveEntry, ResumeSaveEntry}
use Rattle.image_calls.specs.Clauses.{PostOn, came_from, PostFrom, SavesIn, RefinesBy, ResumesIn}

-- what holds of all images
images : ImagesSpec
images = record { reads = reads_right; unread = unread; own = own_read; damage = damage_refused; answers = answers_kept }

-- .. and of the lines of every book
lines_spec : (lent : Lent) (book : List ℕ) → LinesSpec
lines_spec lent book = record { reads = (claim-of lent book).reads; printed = (claim-of lent book).printed; conditions = (claim-of lent book).conditions }

-- ---- going on

unwritten : {out out' : List ℕ} → out' ≡ out → Wrote 0 out out'
unwritten e = record { fits = omega arith; beyond = λ i l. ap (λ (o : List ℕ). get_or o i 0) e }

by_scratch : (lent : Lent) (image book : List ℕ) {b : Bool} → ltb lent.scratch 6144 ≡ b
    → ran_on lent image book ≡ (if b then failed 26 0 [] else goes_on lent (Claims.setting_at lent image) book (read lent limits01 image))
unfolding ran_on
by_scratch lent image book e = ap (λ (b : Bool). if b then failed 26 0 [] else goes_on lent (Claims.setting_at lent image) book (read lent limits01 image)) e

module _ (image book : List ℕ) (x : Place) where
  pub on_short : {s : Stop} → (length x.lines.words.now + length x.aut.scratch.now < 6144) × (s ≡ record { refusal = Scratch; line = 0; length = 0 }) → PostOn image book x (Err s) x
  on_short (l, q) = subst (λ (t : Stop). PostOn image book x (Err t) x) (sym q) (record { is = by_scratch (lengths_of x) image book (lt-ltb (length x.lines.words.now + length x.aut.scratch.now) 6144 l); ends = tt; wrote = unwritten refl })

  module _ (E : Empty x) (l : 6144 ≤ length x.lines.words.now + length x.aut.scratch.now) {y : Place} (K : SameSlices x y) (B : Beside x y) where
    bytes_same : y.output.bytes.now ≡ x.output.bytes.now
    bytes_same = ap (λ o. o.bytes.now) B.output

    on_is : {r : Result Setting Refusal} → PostRead image x r y → ran_on (lengths_of x) image book ≡ goes_on (lengths_of x) (Claims.setting_at (lengths_of x) image) book (outcome (λ S. 0) r (place_in y))
    on_is R =
        by_scratch (lengths_of x) image book (le-ltb (length x.lines.words.now + length x.aut.scratch.now) 6144 l)
        ∙ ap (goes_on (lengths_of x) (Claims.setting_at (lengths_of x) image) book) (read_itself E K B R)

    pub on_refused : {e : Refusal} {s : Stop} → s ≡ record { refusal = e; line = 0; length = 0 } → PostRead image x (Err e) y → PostOn image book x (Err s) y
    on_refused q R = rw q (record { is = on_is R; ends = tt; wrote = unwritten bytes_same })

    -- entries and bytes are lent as before
    setting_is : setting_in (Image.setting_at image) y ≡ Claims.setting_at (lengths_of x) image
    setting_is = ap₂ (λ (p o : List ℕ). setting_of (Image.setting_at image) (length p / 2) (length o)) (ap (λ b. b.now) B.pending) bytes_same

    module _ {S : Setting} (R : PostRead image x (Ok S) y) where
      stands : Standing S y
      stands = stands_itself E K B R

      pub on_ready : PreGo S y 1 (2048 - y.lines.count)
      on_ready = record { standing = stands; more = omega (arith, stands.lines); small = omega arith }

      pub on_went : {w : Result Setting Stop} {r : Result Unit Stop} {z : Place} → PostGo book S y 1 (2048 - y.lines.count) r z → w ≡ went_of S r → PostOn image book x w z
      on_went {w} {r} {z} G e = rw e (record {
        is = on_is R
            ∙ ap₂ (λ (T : Run.Setting) (k : ℕ). came_of T (Run.run T (2048 - k) book 1 (place_in y))) (sym (ap (λ (q : Setting). setting_in q y) R.then.setting ∙ setting_is)) (lines_length y.lines.words.now y.lines.count)
            ∙ G.comes.is;
        ends = G.comes.ends;
        wrote = subst (λ (o : List ℕ). Wrote (written_by (went_of S r) z) o z.output.bytes.now) bytes_same G.comes.wrote;
      })

      pub on_stopped : {e : Stop} {q : Result Setting Stop} {z : Place} → PostGo book S y 1 (2048 - y.lines.count) (Err e) z → IsErr q × IsErrAnd q (λ a. a ≡ e) → PostOn image book x q z
      on_stopped g by = on_went g (passed by)

-- ---- what is left

-- r is what is returned, x what was lent and z what is left
abbrev Left : Run.Result → (number line len : ℕ) → (x z : Place) → Type 0
Left r number line len x z = Refines r number line len x.output.bytes.now z.output.bytes.now z.aut.sp.nodes.now z.aut.spp.nodes.now z.aut.states.words.now z.aut.members.words.now z.aut.transitions.words.now z.aut.pending.now (z.lines.words.now ++ z.aut.scratch.now)

-- what is returned of a run with its image, and of one without
sealed_left : (v : Run.Result) (x z : Place) (w : Result Setting Stop) (y : Place) (k : Result ℕ Stop)
    → Left v (Book.number_of (ran_of (with_image k w) y)) (Book.text_line_of (ran_of (with_image k w) y)) (Book.length_of (ran_of (with_image k w) y)) x z
    → let r : Result (ℕ × ℕ) Stop = sealed_of (ran_of (with_image k w) y) k in Left v (number_of r) (text_line_of r) (length_of r) x z
sealed_left v x z (Ok S) y (Ok i) h = h
sealed_left v x z (Err s) y (Ok i) h = h
sealed_left v x z w y (Err s) h = h

sealed_length : (lent : Lent) (size : ℕ) (w : Result Setting Stop) (y : Place) (k : Result ℕ Stop)
    → image_length k ≡ length (saving lent size (came_by w y)).image → image_length_of (sealed_of (ran_of (with_image k w) y) k) ≡ length (saving lent size (came_by w y)).image
sealed_length lent size (Ok S) y (Ok i) h = h
sealed_length lent size (Err s) y (Ok i) h = refl
sealed_length lent size w y (Err s) h = h

-- A call that runs to c from the zeroed place x₁, which ends in y and leaves z; x is what was lent.
module _ (x x₁ y z : Place) (s : lengths_of x₁ ≡ lengths_of x) (o : x₁.output.bytes ≡ x.output.bytes) (c : Lent → Came) {w : Result Setting Stop} (C : ComesTo (c (lengths_of x₁)) x₁ w y) where
  seals : {r : Result (ℕ × ℕ) Stop} {image image' : List ℕ} → PostSeal w y r z image image' → Lends (lengths_of x) (slices_at z)
      → SavedAs (lengths_of x) (saving (lengths_of x) (length image) (c (lengths_of x))) (slices_at x) image (number_of r) (text_line_of r) (length_of r) (image_length_of r) (slices_at z) image'
  seals {r} {image} {image'} P L =
      let v : Result Setting Stop = with_image P.kept w in
      let K : Keeps (lengths_of x) w y P.kept image image' = P.keeps.keeps (lengths_of x) in
      let e : saving (lengths_of x) (length image) (c (lengths_of x)) ≡ saving (lengths_of x) (length image) (came_by w y) = ap (saving (lengths_of x) (length image)) (came_is x x₁ y z s o c C) in
      let F : PostFinish v y P.ran z = P.finishes in
      let q : r ≡ sealed_of (ran_of v y) P.kept = P.is ∙ ap (λ (a : Result ℕ Stop). sealed_of a P.kept) F.is in
      let W : Wrote (written_by v y) x.output.bytes.now y.output.bytes.now = subst (λ (n : ℕ). Wrote n x.output.bytes.now y.output.bytes.now) (sym P.keeps.bytes) (wrote_is x x₁ y z s o c C) in
      rw (e, q) (record {
        lends = lends_own x;
        refines = sealed_left (saving (lengths_of x) (length image) (came_by w y)).result x z w y P.kept
            (subst (λ (f : Run.Result). Left f (Book.number_of (ran_of v y)) (Book.text_line_of (ran_of v y)) (Book.length_of (ran_of v y)) x z) (sym K.result)
            (subst (λ (a : Result ℕ Stop). Left (finished (lengths_of x) (came_by v y)) (Book.number_of a) (Book.text_line_of a) (Book.length_of a) x z) F.is (left_is x y z L v W F)));
        leaves = L;
        image_length = sealed_length (lengths_of x) (length image) w y P.kept K.len;
        image_is = K.is;
      })

module _ (x x₁ y z : Place) (s : lengths_of x₁ ≡ lengths_of x) (o : x₁.output.bytes ≡ x.output.bytes) {w : Result Setting Stop} {m n : Memory} (p : m ≡ memory_of x) (q : n ≡ memory_of z) where
  pub saves : (from : code.Option (List ℕ)) (book : List ℕ) → PostFrom from book x₁ w y → {r : Result (ℕ × ℕ) Stop} {before after : List ℕ} → PostSeal w y r z before after → SavesIn from book m before r n after
  saves from book C {r} {before} {after} P = record {
    is = of_slices
        (λ (lent : Lent) (a b : Slices). Lends lent b
        → SavedAs lent (saving lent (length before) (came_from from book lent)) a before (number_of r) (text_line_of r) (length_of r) (image_length_of r) b after) x z p q
        (seals x x₁ y z s o (came_from from book) C P);
  }

  pub resumes : (image book : List ℕ) → PostOn image book x₁ w y → {r : Result ℕ Stop} → PostFinish w y r z → ResumesIn image book m r n
  unfolding Calls.resume
  resumes image book C {r} F = record {
    is = of_slices (λ (lent : Lent) (a b : Slices). Lends lent b → RefinesBy lent image book a r b) x z p q (comes_to x x₁ y z s o (λ (lent : Lent). ran_on lent image book) C F refl);
  }

-- ---- the calls, with what is claimed of each

pub save_entry : (lent : Lent) {book before after : List ℕ} {m n : Slices} {number line len size : ℕ} → SavedAs lent (saving lent (length before) (came_from code.None book lent)) m before number line len size n after → SaveEntry lent book m before number line len size n after
unfolding Calls.save
save_entry lent {book} {before} S = record { saved = S; claim = save_claim lent (length before) book; book_claim = claim-of lent book; images = images }

module _ (lent : Lent) {image book : List ℕ} {m n : Slices} {number line len : ℕ} (b : Bytes image) where
  pub resume_entry : Lends lent m → Lends lent n → Refines (Calls.resume lent image book) number line len m.output n.output n.sp n.spp n.states n.members n.transitions n.pending n.scratch → ResumeEntry lent image book m number line len n
  resume_entry l k R = record { lends = l; refines = R; leaves = k; claim = resume_claim lent image book b; lines = lines_spec lent book; images = images }

  pub resume_save_entry : {before after : List ℕ} {size : ℕ} → SavedAs lent (saving lent (length before) (came_from (code.Some image) book lent)) m before number line len size n after → ResumeSaveEntry lent image book m before number line len size n after
  unfolding Calls.resume_save
  resume_save_entry {before} S = record { saved = S; claim = resume_save_claim lent (length before) image book b; resume_claim = resume_claim lent image book b; lines = lines_spec lent book; images = images }
