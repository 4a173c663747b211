-- 02 (ii), the calls: what `resume`, `save` and `resume_save` come to, of every image and book.
use Rattle.std.specs.Prelude.{if◌then◌else◌}
use mathlib.Core.Path.{◌≡◌, refl, sym, ◌∙◌, ap, subst}
use mathlib.Core.Bool.{Bool, true, false, ◌||◌}
use mathlib.Core.List.{List, [], ◌∷◌}
use mathlib.Core.Logic.{inl, inr, ⊎_elim}
use mathlib.Core.Option.{Option, none, some}
use Prim.Native.Nat.{ℕ, zero, suc, ◌+◌, ◌*◌, ◌-◌, ◌^◌, ◌≤◌, ◌<◌}
use native.Mathlib.Omega.{arith}
use lib.Dec.{eqb, ltb, leb}
use lib.ListN.{length, length-append}
use borrow.Author.Tests.{eqb-true, eqb-false, ltb-true, ltb-false, leb-true, lt-ltb, le-ltb}
use Rattle.common.specs.Outcome.{Outcome, refused, given}
use Rattle.common.proofs.Follow.{refused≢given}
use Rattle.common.specs.Runs.{Table, table}
use Rattle.netkat.specs.Rules.{Rule}
use Rattle.sp_steps.specs.Model as Sp
use Rattle.spp_steps.specs.Model as Spp
use Rattle.sp_steps.proofs.Make.{by_test}
use Rattle.spp_steps.proofs.Laws.{false_true}
use Rattle.aut_steps.specs.Tables.{NEXT, kind_of, limits01, aut}
use Rattle.aut_delta_steps.specs.Delta.{store}
use Rattle.aut_delta_steps.proofs.EpsilonReads.{given_store}
use Rattle.aut_query_steps.specs.Tables.{tables}
use Rattle.image_form.specs.Damage.{Bytes}
use Rattle.image_form.proofs.Blocks.{blocks_length}
use Rattle.book_steps.specs.Text.{Cut, line, unended, cut, words}
use Rattle.book_steps.specs.Reader.{Header, header, Instruction, parse, resolve}
use Rattle.book_steps.specs.Answers.{fields_answer}
use Rattle.book_steps.specs.Run as Run
use Rattle.book_steps.proofs.Finished.{book_finished}
use Rattle.book_steps.specs.Run.{Lent, Setting, RunState, place, zeroed, begin, setting_of, Ran, answered, stopped, step, onward, with_line, run, Result, finish, refusal, success, outcome}
use Rattle.book_steps.specs.Demands.{InOrder}
use Rattle.book_steps.specs.RunSpec as RunSpec
use Rattle.book_steps.specs.RunSpec.{LineSpec, Point}
use Rattle.book_steps.specs.Claim.{Begun, begun, Headed}
use Rattle.book_steps.proofs.Header.{headed_small}
use Rattle.book_steps.proofs.MeaningLaws.{noted}
use Rattle.book_steps.proofs.Lines.{Lined, stops, comes, lined}
use Rattle.book_steps.proofs.Runs.{run_spec, run_one, runs}
use Rattle.book_steps.proofs.Claim.{begun_in_order}
use Rattle.image_steps.specs.Image.{head_of, blocks_of, word_of, body_of, image_of, saved}
use Rattle.image_steps.specs.Read.{read}
use Rattle.book_steps.specs.Run.{Came, came, failed, came_of, started_book, headed_book, opened_book, ran_book, finished}
use Rattle.image_steps.specs.Calls.{has_next, goes_on, ran_on, saving, save, resume, resume_save}
use Rattle.image_steps.specs.Claims.{setting_at, ReadsRight, NoNext, OwnPlace, on_from, ResumeSpec, ResumeClaim, SaveSpec, SaveClaim, ResumeSaveClaim}
use Rattle.image_steps.proofs.Lists.{split}
use Rattle.image_steps.proofs.Reading.{read_in_order}
use Rattle.image_steps.proofs.Same.{saved_again}

-- ---- the length of an image

pub saved_length : (S : Setting) (p : RunState) → length (saved S p) ≡ 512 * blocks_of (head_of S p)
unfolding saved image_of
saved_length S p = blocks_length (word_of (head_of S p) (body_of p)) 0 (blocks_of (head_of S p))

-- ---- the place that a run leaves

module _ (S : Setting) (lent : Lent) where
  abbrev N : ℕ
  N = S.fields

  abbrev Meant : Type 0
  Meant = List (Option (Rule N))

  -- in order, with at most so many lines
  pub record Left (most : ℕ) (q : RunState) : Type 0 where
    pub rules : Meant
    pub in_order : InOrder S lent q rules
    pub lines : length q.lines ≤ most

  pub data Leaves (most : ℕ) : Ran S → Type 0 where
    answers : {q : RunState} → Left most q → Leaves most (answered q)
    halts : {number k : ℕ} {out : List ℕ} → Leaves most (stopped number k out)

  -- a line is one more
  line_more : {p q : RunState} {R Q : Meant} {s : Instruction} → LineSpec S p R s q Q → length q.lines ≡ length p.lines + 1
  line_more {p} (RunSpec.made {x = x} t u e k) = length-append p.lines (some x ∷ [])
  line_more {p} (RunSpec.answered t u k f) = length-append p.lines (none ∷ [])

  pub run_leaves : (most left : ℕ) (text : List ℕ) (k : ℕ) {p : RunState} {R : Meant} → InOrder S lent p R → length p.lines + left ≤ most → Leaves most (run S left text k p)
  unfolding run
  run_leaves most zero [] k {R = R} i l = answers (record { rules = R; in_order = i; lines = omega arith })
  run_leaves most zero (b ∷ text) k i l = halts
  run_leaves most (suc left) [] k {R = R} i l = answers (record { rules = R; in_order = i; lines = omega arith })
  run_leaves most (suc left) (b ∷ text) k {p} {R} i l = at_cut (λ text k q Q j m. run_leaves most left text k j m) (cut (b ∷ text)) refl
    where
      c : Point S
      c = record { left = suc left; text = b ∷ text; line = k; place = p; rules = R }

      Rest : List ℕ → Type 0
      Rest rest = (k : ℕ) (q : RunState) (Q : Meant) → InOrder S lent q Q → length q.lines + left ≤ most → Leaves most (run S left rest k q)

      at_line : (rest : List ℕ) → Rest rest → (s : Instruction) → (o : Outcome RunState ℕ) → Lined S lent c s o → Leaves most (onward S (run S left rest) k p o)
      at_line rest f s (refused number) (stops y) = halts
      at_line rest f s (given q x) (comes y j g) = f (suc k) q (noted R (resolve N R s)) j (omega (arith, line_more y))

      at_said : (rest m : List ℕ) → cut (b ∷ text) ≡ line m rest → Rest rest → (s : Option Instruction) → parse (words m) ≡ s → Leaves most (onward S (run S left rest) k p (step S s p))
      at_said rest m e f none w = halts
      at_said rest m e f (some s) w = at_line rest f s (step S (some s) p) (lined S lent c i rest s (omega arith, (m, e, w)))

      at_cut : ((text : List ℕ) → Rest text) → (b' : Cut) → cut (b ∷ text) ≡ b' → Leaves most (with_line S (run S left) k p b')
      at_cut f unended e = halts
      at_cut f (line m rest) e = at_said rest m e (f rest) (parse (words m)) refl

-- ---- kind 10

or_false : (a b : Bool) → (a || b) ≡ false → (a ≡ false) × (b ≡ false)
or_false false b e = (refl, e)
or_false true b e = absurd (false_true (sym e))

pub next_none : (st : List ℕ) (n : ℕ) → has_next st n ≡ false → (x : ℕ) → (x < n) × (kind_of st x ≡ NEXT) → ⊥
unfolding has_next
next_none st zero e x (l, k) = omega arith
next_none st (suc n) e x (l, k) =
    let (p, q) = or_false (eqb (kind_of st n) NEXT) (has_next st n) e in
    ⊎_elim
    (λ m. next_none st n q x (m, k))
    (λ m. eqb-false (kind_of st n) NEXT p (ap (kind_of st) {x = n} {y = x} (omega arith) ∙ k))
    (split x n)

pub next_some : (st : List ℕ) (n : ℕ) → has_next st n ≡ true → (x : ℕ) × ((x < n) × (kind_of st x ≡ NEXT))
unfolding has_next
next_some st zero e = absurd (false_true e)
next_some st (suc n) e = go (eqb (kind_of st n) NEXT) refl (next_some st n) e
  where
    go : (b : Bool) → eqb (kind_of st n) NEXT ≡ b → (has_next st n ≡ true → (x : ℕ) × ((x < n) × (kind_of st x ≡ NEXT))) → (b || has_next st n) ≡ true → (x : ℕ) × ((x < suc n) × (kind_of st x ≡ NEXT))
    go true q f e = (n, (omega arith, eqb-true (kind_of st n) NEXT q))
    go false q f e = let (x, (l, k)) = f e in (x, (omega arith, k))

pub next_found : (st : List ℕ) (n x : ℕ) → x < n → kind_of st x ≡ NEXT → has_next st n ≡ true
next_found st n x l k = by_test (has_next st n) (λ e. e) (λ e. absurd (next_none st n e x (l, k)))

-- ---- an image is written

-- what a run comes to is a number, or a place of a book
pub data Owned (lent : Lent) : Came → Type 0 where
  own : {S : Setting} {p : RunState} → (NoNext p → blocks_of (head_of S p) ≤ 65536 → OwnPlace S lent p) → Owned lent (came S p)
  fails : {number k : ℕ} {out : List ℕ} → Owned lent (failed number k out)

pub saving_spec : (lent : Lent) (size : ℕ) (c : Came) → Owned lent c → SaveSpec lent size c (saving lent size c)
saving_spec lent size c fails = SaveSpec.stopped refl refl
saving_spec lent size c (own {S} {p} o) = known (has_next p.tables.base.aut.states.words p.tables.base.aut.states.count) refl
  where
    n : ℕ
    n = blocks_of (head_of S p)

    go : NoNext p → (a b : Bool) → ltb 65536 n ≡ a → ltb size (512 * n) ≡ b
        → SaveSpec lent size (came S p) (if a || b then record { result = refusal lent 27 0 p.output; image = [] } else record { result = success lent p; image = saved S p })
    go k true b e f = SaveSpec.no_room k (inl (ltb-true 65536 n e)) refl refl
    go k false true e f = SaveSpec.no_room k (inr (ltb-true size (512 * n) f)) refl refl
    go k false false e f = SaveSpec.written (ltb-false 65536 n e) (ltb-false size (512 * n) f) refl refl (saved_length S p) (o k (ltb-false 65536 n e))

    known : (b : Bool) → has_next p.tables.base.aut.states.words p.tables.base.aut.states.count ≡ b
        → SaveSpec lent size (came S p) (if b then record { result = refusal lent 33 0 p.output; image = [] }
        else if ltb 65536 n || ltb size (512 * n) then record { result = refusal lent 27 0 p.output; image = [] } else record { result = success lent p; image = saved S p })
    known true e = SaveSpec.unknown_kind (next_some _ _ e).1 refl refl
    known false e = go (next_none _ _ e) (ltb 65536 n) (ltb size (512 * n)) refl refl

-- what a run of 01's limits leaves
run_owned : (lent : Lent) (S : Setting) → S.limits ≡ limits01 → S.fields ≤ 31 → S.budget < 2 ^ 64 → {r : Ran S} → Leaves S lent 2048 r → Owned lent (came_of S r)
run_owned lent S a b c (answers z) = own (λ k few. record { rules = z.rules; in_order = z.in_order; limits = a; fields = b; budget = c; lines = z.lines; no_next = k; few = few })
run_owned lent S a b c halts = fails

finished_run : (lent : Lent) (S : Setting) (r : Ran S) → finished lent (came_of S r) ≡ finish lent r
finished_run lent S (answered p) = refl
finished_run lent S (stopped e k out) = refl

-- ---- a book

-- what is begun is begun as 01 says
begin_begun : (lent : Lent) (h : Header) {p : RunState} {x : ℕ} → begin lent h ≡ given p x → Begun lent h.fields p
unfolding begin
begin_begun lent h {p} {x} e = wide_test (ltb 31 h.fields) refl e
  where
    room : h.fields ≤ 31 → {s t : Table} {z : ℕ} {c : Spp.Constants} → Sp.constants h.fields (table (zeroed lent.sp) 0) ≡ given s z → Spp.constants h.fields (table (zeroed lent.spp) 0) ≡ given t c → (b : Bool) → leb (length (fields_answer h.fields)) lent.output ≡ b
        → (if b then given (place (tables s (store (aut t (table (zeroed lent.states) 0) (table (zeroed lent.members) 0)) (table (zeroed lent.transitions) 0))) [] (fields_answer h.fields)) 0 else refused 27) ≡ given p x
        → Begun lent h.fields p
    room w a c true l q = subst (Begun lent h.fields) (given_store q) (begun w a c (leb-true (length (fields_answer h.fields)) lent.output l))
    room w a c false l q = absurd (refused≢given q)

    both : h.fields ≤ 31 → (s : Outcome Table ℕ) (r : Outcome Table Spp.Constants) → Sp.constants h.fields (table (zeroed lent.sp) 0) ≡ s → Spp.constants h.fields (table (zeroed lent.spp) 0) ≡ r
        → Run.begun lent h s r ≡ given p x → Begun lent h.fields p
    both w (refused e) r a b q = absurd (refused≢given q)
    both w (given s z) (refused e) a b q = absurd (refused≢given q)
    both w (given s z) (given r c) a b q = room w a b (leb (length (fields_answer h.fields)) lent.output) refl q

    wide_test : (b : Bool) → ltb 31 h.fields ≡ b → (if b then refused 2 else Run.begun lent h (Sp.constants h.fields (table (zeroed lent.sp) 0)) (Spp.constants h.fields (table (zeroed lent.spp) 0))) ≡ given p x
        → Begun lent h.fields p
    wide_test true l q = absurd (refused≢given q)
    wide_test false l q = both (ltb-false 31 h.fields l) (Sp.constants h.fields (table (zeroed lent.sp) 0)) (Spp.constants h.fields (table (zeroed lent.spp) 0)) refl refl q

begun_fields : {lent : Lent} {N : ℕ} {p : RunState} → Begun lent N p → N ≤ 31
begun_fields (begun l a b f) = l

begun_lines : {lent : Lent} {N : ℕ} {p : RunState} → Begun lent N p → length p.lines ≡ 0
begun_lines (begun l a b f) = refl

module _ (lent : Lent) (book : List ℕ) where
  book_owned : Owned lent (ran_book lent book)
  unfolding ran_book
  book_owned = long (ltb lent.scratch 6144)
    where
      begins : (h : Header) (text : List ℕ) → Headed book h text → (o : Outcome RunState ℕ) → begin lent h ≡ o → Owned lent (started_book lent h text o)
      begins h text i (refused e) q = fails
      begins h text i (given p x) q =
          let b : Begun lent h.fields p = begin_begun lent h q in
          run_owned lent (setting_of lent h) refl (begun_fields b) (headed_small i) (run_leaves (setting_of lent h) lent 2048 2048 text 2 (begun_in_order h b) (omega (arith, begun_lines b)))

      heads : (l rest : List ℕ) → cut book ≡ line l rest → (o : Option Header) → header (words l) ≡ o → Owned lent (headed_book lent o rest)
      heads l rest e none q = fails
      heads l rest e (some h) q = begins h rest (Headed.is e q) (begin lent h) refl

      opens : (c : Cut) → cut book ≡ c → Owned lent (opened_book lent c)
      opens unended e = fails
      opens (line l rest) e = heads l rest e (header (words l)) refl

      long : (b : Bool) → Owned lent (if b then failed 26 0 [] else opened_book lent (cut book))
      long true = fails
      long false = opens (cut book) refl

  pub save_claim : (size : ℕ) → SaveClaim lent size book
  unfolding save
  save_claim size = record { ran = book_finished lent book; whole = saving_spec lent size (ran_book lent book) book_owned }

-- ---- a book that goes on

pub reads_right : ReadsRight
reads_right lent image p x b e =
    let r = read_in_order lent image p x b e in
    record { in_order = r.in_order; fields = r.fields; budget = r.budget; lines = r.lines; silent = r.silent; again = saved_again lent image p x b e }

module _ (lent : Lent) (image book : List ℕ) (bytes : Bytes image) where
  abbrev S : Setting
  S = setting_at lent image

  -- enough scratch, or not
  long_is : 6144 ≤ lent.scratch → ran_on lent image book ≡ goes_on lent S book (read lent limits01 image)
  unfolding ran_on
  long_is w = ap (λ (b : Bool). if b then failed 26 0 [] else goes_on lent S book (read lent limits01 image)) (le-ltb lent.scratch 6144 w)

  short_is : lent.scratch < 6144 → ran_on lent image book ≡ failed 26 0 []
  unfolding ran_on
  short_is w = ap (λ (b : Bool). if b then failed 26 0 [] else goes_on lent S book (read lent limits01 image)) (lt-ltb lent.scratch 6144 w)

  resume_is : {c : Came} → ran_on lent image book ≡ c → resume lent image book ≡ finished lent c
  unfolding resume
  resume_is e = ap (finished lent) e

  goes_is : {p : RunState} {x : ℕ} → 6144 ≤ lent.scratch → read lent limits01 image ≡ given p x
      → resume lent image book ≡ finish lent (run S (2048 - length p.lines) book 1 p)
  goes_is {p} {x} w e = resume_is (long_is w ∙ ap (goes_on lent S book) e) ∙ finished_run lent S (run S (2048 - length p.lines) book 1 p)

  on_owned : Owned lent (ran_on lent image book)
  unfolding ran_on
  on_owned = long (ltb lent.scratch 6144)
    where
      goes : (o : Outcome RunState ℕ) → read lent limits01 image ≡ o → Owned lent (goes_on lent S book o)
      goes (refused e) q = fails
      goes (given p x) q =
          let r = read_in_order lent image p x bytes q in
          run_owned lent S refl r.fields r.budget (run_leaves S lent 2048 (2048 - length p.lines) book 1 r.in_order (omega (arith, r.lines)))

      long : (b : Bool) → Owned lent (if b then failed 26 0 [] else goes_on lent S book (read lent limits01 image))
      long true = fails
      long false = goes (read lent limits01 image) refl

  pub resume_save_claim : (size : ℕ) → ResumeSaveClaim lent size image book
  unfolding resume resume_save
  resume_save_claim size = record { ran = refl; whole = saving_spec lent size (ran_on lent image book) on_owned }

  resume_whole : ResumeSpec lent image book (resume lent image book)
  resume_whole = by_test (ltb lent.scratch 6144)
      (λ e. ResumeSpec.no_scratch (ltb-true lent.scratch 6144 e) (resume_is (short_is (ltb-true lent.scratch 6144 e))))
      (λ e. goes (ltb-false lent.scratch 6144 e) (read lent limits01 image) refl)
    where
      goes : 6144 ≤ lent.scratch → (o : Outcome RunState ℕ) → read lent limits01 image ≡ o → ResumeSpec lent image book (resume lent image book)
      goes w (refused number) q = ResumeSpec.unread w q (resume_is (long_is w ∙ ap (goes_on lent S book) q))
      goes w (given p x) q =
          let r = reads_right lent image p x bytes q in
          ResumeSpec.ran w q r (subst (RunSpec.RunSpec S lent (on_from lent image book p)) (sym (goes_is w q)) (run_spec S lent (2048 - length p.lines) book 1 r.in_order))

  resume_only : (r : Result) → ResumeSpec lent image book r → r ≡ resume lent image book
  resume_only r (ResumeSpec.no_scratch w z) = z ∙ sym (resume_is (short_is w))
  resume_only r (ResumeSpec.unread w q z) = z ∙ sym (resume_is (long_is w ∙ ap (goes_on lent S book) q))
  resume_only r (ResumeSpec.ran {p} w q i z) = run_one S lent (on_from lent image book p) r z ∙ sym (goes_is w q)

  pub resume_claim : ResumeClaim lent image book
  resume_claim = record {
    whole = resume_whole;
    only = resume_only;
    runs = λ p x e. runs S lent (on_from lent image book p) (read_in_order lent image p x bytes e).in_order;
  }
