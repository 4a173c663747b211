-- 02 (ii), in words of the calls: a book continued after a read gets every answer that the uninterrupted run gave, its lent lengths no smaller, unless working out live sets again makes it meet 20 or 24 (specs/Answers).
use Rattle.std.specs.Prelude.{if◌then◌else◌}
use mathlib.Core.Path.{◌≡◌, refl, sym, ◌∙◌, ap, subst}
use mathlib.Core.Logic.{◌⊎◌, inl, inr}
use mathlib.Core.Bool.{Bool, true, false}
use mathlib.Core.List.{List, [], ◌∷◌, ◌++◌, append-nil, append_assoc, Memᴰ}
use mathlib.Core.Option.{Option, none, some}
use Prim.Native.Nat.{ℕ, zero, suc, ◌+◌, ◌*◌, ◌-◌, ◌<◌}
use native.Mathlib.Omega.{arith}
use lib.Dec.{ltb}
use lib.ListN.{length}
use Rattle.common.specs.Outcome.{Outcome, refused, given}
use Rattle.common.specs.Runs.{Table}
use Rattle.aut_steps.specs.Tables.{limits01}
use Rattle.aut_steps.specs.Ascending.{All}
use Rattle.aut_query_steps.specs.Tables.{live_of}
use Rattle.book_steps.specs.Text.{Cut, line, unended, cut, words}
use Rattle.book_steps.specs.Reader.{Header, header, parse}
use Rattle.book_steps.specs.Demands.{RoomSpec}
use Rattle.book_steps.specs.Run.{Lent, Setting, RunState, Ran, answered, stopped, step, onward, with_line, run, instructions, begin, setting_of, Result, outcome, Came, came, failed, came_of, started_book, headed_book, opened_book, ran_book, finished}
use Rattle.book_steps.specs.RunSpec.{Answered, Point, LineRefusal, Final}
use Rattle.book_steps.specs.Claim.{HeaderRefusal, BookSpec}
use Rattle.book_steps.proofs.Claim.{whole_book}
use Rattle.book_steps.proofs.Finished.{book_finished}
use Rattle.book_longer.specs.Longer.{LongerWords, Front, LongerLent, LongerResult, BookFollows}
use Rattle.book_longer.proofs.Words.{lives}
use Rattle.book_longer.proofs.Run.{front_trans}
use Rattle.book_longer.proofs.Book.{book_longer, answered_longer}
use Rattle.image_steps.specs.Image.{Head, saved}
use Rattle.image_steps.specs.Read.{head_at, read}
use Rattle.image_steps.specs.Calls.{Saved, save, resume}
use Rattle.image_steps.specs.Claims.{setting_at, stripped, OwnPlace, SaveSpec}
use Rattle.image_steps.proofs.Claims.{own_read, save_claim}
use Rattle.image_steps.proofs.OwnImage.{head_is}
use Rattle.image_continued.specs.Continued as Continued
use Rattle.image_continued.specs.Continued.{WorksAgain, output_of, RunsOn, CallsContinued}
use Rattle.image_continued.specs.Answers.{AllAnswers, CutShort, uninterrupted, continued, AnswersKept, AnswersAreKept}
use Rattle.image_continued.proofs.Book.{Started, started, calls_continued}
use Rattle.image_continued.proofs.Lengths.{stripped_same, room_for, Lengthened, lengthened}

-- ---- no book fails with the number 0

positive : {n : ℕ} (xs : List ℕ) → All (λ v. 0 < v) xs → Memᴰ n xs → 0 < n
positive (x ∷ xs) a (Memᴰ.head e) = omega (arith, a.0, e)
positive (x ∷ xs) a (Memᴰ.tail m) = positive xs a.1 m
positive {n = n} [] a x'' = elim x'' [ ]

line_number : {S : Setting} {c : Point S} {number : ℕ} → LineRefusal S c number → 0 < number
line_number (LineRefusal.too_many n e) = omega arith
line_number (LineRefusal.no_end n z e) = omega arith
line_number (LineRefusal.no_form w) = omega arith
line_number (LineRefusal.misnamed w m) = omega arith
line_number (LineRefusal.out_of_range w m) = omega arith
line_number (LineRefusal.making w t e m) = positive _ (omega arith, (omega arith, (omega arith, (omega arith, (omega arith, (omega arith, tt)))))) m
line_number (LineRefusal.asking w t e m) = positive _ (omega arith, (omega arith, (omega arith, (omega arith, (omega arith, (omega arith, (omega arith, (omega arith, (omega arith, (omega arith, tt)))))))))) m
line_number (LineRefusal.no_room w t u m f) = omega arith

header_number : {lent : Lent} {N number : ℕ} → HeaderRefusal lent N number → 0 < number
header_number (HeaderRefusal.wide a) = omega arith
header_number (HeaderRefusal.no_sets a b) = omega arith
header_number (HeaderRefusal.no_relations a b c) = omega arith
header_number (HeaderRefusal.no_room a b c d) = omega arith

number_is : {r s : Result} → r ≡ s → r.number ≡ s.number
number_is e = ap (λ (r : Result). r.number) e

line_is : {r s : Result} → r ≡ s → r.line ≡ s.line
line_is e = ap (λ (r : Result). r.line) e

-- an outcome with a text line has a number
book_number : {lent : Lent} {book : List ℕ} {r : Result} → BookSpec lent book r → 0 < r.line → 0 < r.number
book_number (BookSpec.no_scratch w z) l = omega (arith, number_is z)
book_number (BookSpec.headless w i z) l = omega (arith, number_is z)
book_number (BookSpec.not_begun w i y z) l = omega (arith, number_is z, header_number y)
book_number (BookSpec.ran w i y t (d, v, Final.ends e z)) l = absurd (omega (arith, line_is z))
book_number (BookSpec.ran w i y t (d, v, Final.stops n z)) l = omega (arith, number_is z, line_number n)

-- what fails has a text line, or is 26
data Late : Came → Type 0 where
  comes : {S : Setting} {p : RunState} → Late (came S p)
  fails : {number k : ℕ} {out : List ℕ} → (0 < k) ⊎ (0 < number) → Late (failed number k out)

module _ (S : Setting) where
  onward_late : (go : ℕ → RunState → Ran S) → ((k : ℕ) (q : RunState) → 0 < k → Late (came_of S (go k q))) → (k : ℕ) → 0 < k → (p : RunState) (o : Outcome RunState ℕ) → Late (came_of S (onward S go k p o))
  onward_late go f k l p (refused e) = fails (inl l)
  onward_late go f k l p (given q x) = f (suc k) q (omega arith)

  cut_late : (go : List ℕ → ℕ → RunState → Ran S) → ((text : List ℕ) (k : ℕ) (q : RunState) → 0 < k → Late (came_of S (go text k q))) → (k : ℕ) → 0 < k → (p : RunState) (c : Cut) → Late (came_of S (with_line S go k p c))
  cut_late go f k l p unended = fails (inl l)
  cut_late go f k l p (line m rest) = onward_late (go rest) (f rest) k l p (step S (parse (words m)) p)

  run_late : (left : ℕ) (text : List ℕ) (k : ℕ) (p : RunState) → 0 < k → Late (came_of S (run S left text k p))
  unfolding run
  run_late zero [] k p l = comes
  run_late zero (b ∷ text) k p l = fails (inl l)
  run_late (suc left) [] k p l = comes
  run_late (suc left) (b ∷ text) k p l = cut_late (run S left) (run_late left) k l p (cut (b ∷ text))

module _ (lent : Lent) (book : List ℕ) where
  book_late : Late (ran_book lent book)
  unfolding ran_book
  book_late = long (ltb lent.scratch 6144)
    where
      begins : (h : Header) (text : List ℕ) (o : Outcome RunState ℕ) → Late (started_book lent h text o)
      begins h text (refused e) = fails {k = 1} (inl (omega arith))
      begins h text (given p x) = run_late (setting_of lent h) instructions text 2 p (omega arith)

      heads : (o : Option Header) (text : List ℕ) → Late (headed_book lent o text)
      heads none text = fails {k = 1} (inl (omega arith))
      heads (some h) text = begins h text (begin lent h)

      opens : (c : Cut) → Late (opened_book lent c)
      opens unended = fails {k = 1} (inl (omega arith))
      opens (line l rest) = heads (header (words l)) rest

      long : (b : Bool) → Late (if b then failed 26 0 [] else opened_book lent (cut book))
      long true = fails {number = 26} (inr (omega arith))
      long false = opens (cut book)

  failed_number : {number k : ℕ} {out : List ℕ} → ran_book lent book ≡ failed number k out → 0 < number
  failed_number {number} {k} {out} e = go (subst Late e book_late)
    where
      go : Late (failed number k out) → 0 < number
      go (fails (inl l)) = book_number (subst (BookSpec lent book) (sym (book_finished lent book) ∙ ap (finished lent) e) (whole_book lent book)) l
      go (fails (inr l)) = l

-- ---- a book that is saved

record SavedAt (lent : Lent) (book : List ℕ) (s : Saved lent) : Type 0 where
  setting : Setting
  at : RunState
  comes : ran_book lent book ≡ came setting at
  own : OwnPlace setting lent at
  image : s.image ≡ saved setting at
  result : Answered lent at s.result

saved_at : (lent : Lent) (size : ℕ) (book : List ℕ) → (save lent size book).result.number ≡ 0 → SavedAt lent book (save lent size book)
saved_at lent size book n = go (ran_book lent book) refl (save lent size book) n (save_claim lent size book).whole
  where
    go : (c : Came) → ran_book lent book ≡ c → (s : Saved lent) → s.result.number ≡ 0 → SaveSpec lent size c s → SavedAt lent book s
    go c e s n (SaveSpec.stopped z i) = absurd (omega (arith, number_is z, n, failed_number lent book e))
    go c e s n (SaveSpec.unknown_kind a z i) = absurd (omega (arith, number_is z, n))
    go c e s n (SaveSpec.no_room k a z i) = absurd (omega (arith, number_is z, n))
    go c e s n (SaveSpec.written a b z i l o) = record { setting = _; at = _; comes = e; own = o; image = i; result = z }

-- ---- the two runs

-- u uninterrupted, v the same with the longer lengths, r continued with these
data Decided (E : Type 0) (u : Result) (before : List ℕ) (v r : Result) : Type 0 where
  all : AllAnswers u before r → Decided E u before v r
  cuts : E → (r.number ≡ 20) ⊎ (r.number ≡ 24) → Front (before ++ r.output) v.output → Decided E u before v r

module _ (lent : Lent) (S : Setting) where
  abbrev end : Ran S → Result
  end r = finished lent (came_of S r)

  printed : (r : Ran S) → (end r).output ≡ output_of S r
  printed (answered p) = refl
  printed (stopped e k out) = refl

  decided : {E : Type 0} {u : Result} {before : List ℕ} {on r : Ran S} → RunsOn S lent E before on r → ((number k : ℕ) (out : List ℕ) → came_of S on ≡ failed number k out → 0 < number)
      → Front u.output (end on).output → (u.number ≡ 0 → LongerResult u (end on)) → Decided E u before (end on) (end r)
  decided {u = u} (Continued.ended c) n f l = all (record {
    printed = record { rest = f.rest; is = sym c.output ∙ f.is };
    answered = λ z. record {
      number = refl;
      output = sym c.output ∙ (l z).output;
      relations = subst (λ (t : Table). LongerWords u.spp t.words) c.records.nodes (l z).spp;
      members = subst (λ (t : Table). LongerWords u.members t.words) c.records.members (l z).members;
      states = λ x w m. sym (c.records.words x w m) ∙ (l z).states.reads (12 * x + w);
    };
  })
  decided {before = before} (Continued.further {number} {at} {output} {r} more e) n f l = all (record {
    printed = front_trans f (record { rest = more; is = ap (λ (o : List ℕ). before ++ o) (printed r) ∙ e });
    answered = λ z. absurd (omega (arith, z, (l z).number, n number at output refl));
  })
  decided {before = before} (Continued.short {output = output} {r = r} more x m e) n f l = cuts x m (record { rest = more; is = printed r ∙ e ∙ sym (append_assoc before output more) })

front_of : {r s : Result} → BookFollows r s → Front r.output s.output
front_of (BookFollows.lacks n f) = f
front_of {r} (BookFollows.same l) = record { rest = []; is = l.output ∙ sym (append-nil r.output) }

-- ---- what is stated

module _ (lent lent' : Lent) (size : ℕ) (book more : List ℕ) (w : LongerLent lent lent') (a : SavedAt lent book (save lent size book)) where
  abbrev S : Setting
  S = a.setting

  abbrev p : RunState
  p = a.at

  abbrev image : List ℕ
  image = (save lent size book).image

  -- what was printed before the cut; the three results
  abbrev out : List ℕ
  out = (save lent size book).result.output

  abbrev u : Result
  u = uninterrupted lent lent' size book more

  abbrev v : Result
  v = outcome lent' (book ++ more)

  abbrev r : Result
  r = continued lent lent' size book more

  room : RoomSpec lent p.tables
  room = a.own.in_order.tables.room

  s : Started lent book S p
  s = started lent book S p a.comes

  z : Lengthened lent lent' book s
  z = lengthened w book s

  abbrev T : Setting
  T = setting_of lent' s.says

  abbrev q : RunState
  q = stripped lent' z.at

  calls : CallsContinued lent' book more T z.at
  calls = calls_continued lent' book more T z.at z.comes

  setting_read : setting_at lent' image ≡ T
  setting_read =
      ap (λ (h : Head). setting_of lent' (record { fields = h.fields; budget = h.budget })) (ap head_at a.image ∙ head_is S lent p a.own)
      ∙ ap (λ (S : Setting). setting_of lent' (record { fields = S.fields; budget = S.budget })) (sym s.setting)

  place_read : read lent' limits01 image ≡ given q 0
  place_read = ap (read lent' limits01) a.image ∙ own_read S lent lent' p a.own (room_for w room) ∙ ap (λ (q : RunState). given q 0) (stripped_same lent lent' room z.longer)

  abbrev rest : Ran T
  rest = run T (instructions - length z.at.lines) more 1 q

  resumed : r ≡ end lent' T rest
  unfolding resume
  resumed = ap (finished lent') (calls.continued image setting_read place_read)

  whole : v ≡ end lent' T calls.on
  whole = sym (book_finished lent' (book ++ more)) ∙ ap (finished lent') calls.uninterrupted

  before : z.at.output ≡ out
  before = z.longer.output ∙ sym (ap (λ (r : Result). r.output) a.result)

  abbrev Excuse : Type 0
  Excuse = WorksAgain T (instructions - length z.at.lines) more z.at q

  decision : Decided Excuse u out v r
  decision =
      subst (λ (r : Result). Decided Excuse u out v r) (sym resumed)
      (subst (λ (v : Result). Decided Excuse u out v (end lent' T rest)) (sym whole)
      (subst (λ (o : List ℕ). Decided Excuse u o (end lent' T calls.on) (end lent' T rest)) before
      (decided lent' T calls.answers (λ number k o e. failed_number lent' (book ++ more) (calls.uninterrupted ∙ e))
      (subst (λ (v : Result). Front u.output v.output) whole (front_of (book_longer lent lent' w (book ++ more))))
      (λ n. subst (LongerResult u) whole (answered_longer lent lent' w (book ++ more) n)))))

  no_live : ((x : ℕ) → live_of (save lent size book).result.states x ≡ 0) → (x : ℕ) → live_of z.at.tables.base.aut.states.words x ≡ 0
  no_live f x = ap (λ (g : ℕ → ℕ). g x) (sym (lives z.longer.tables.base.aut.states.words)) ∙ ap (λ (r : Result). live_of r.states x) (sym a.result) ∙ f x

  kept : AnswersKept lent lent' size book more
  kept = record { answers = either decision; without_live = λ f. alone (calls.without_live (no_live f)) decision }
    where
      either : Decided Excuse u out v r → AllAnswers u out r ⊎ CutShort lent' book image more out r
      either (all x) = inl x
      either (cuts e n f) = inr (record { number = n; reworked = record { setting = T; p = z.at; q = q; comes = z.comes; reads = place_read; again = e }; printed = f })

      alone : (Excuse → ⊥) → Decided Excuse u out v r → AllAnswers u out r
      alone g (all x) = x
      alone g (cuts e n f) = absurd (g e)

pub answers_kept : AnswersAreKept
answers_kept lent lent' size book more w n = kept lent lent' size book more w (saved_at lent size book n)
