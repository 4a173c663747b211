-- 02 (ii), "then block by block .. for a record ending there": how to follow the reading of an image. What a step comes to: a number with a reason, or a place of which something holds. What holds of each record's step holds of a run of records, and of the
-- whole; and records each of which is made are made.
use Rattle.std.specs.Prelude.{if◌then◌else◌}
use mathlib.Core.Path.{◌≡◌, refl, sym, ◌∙◌, ap, ap₂, subst}
use mathlib.Core.Bool.{Bool, true, false, ◌||◌, not}
use mathlib.Core.List.{List}
use mathlib.Core.Logic.{⊎_elim}
use mathlib.Core.Option.{Option, none, some}
use Prim.Native.Nat.{ℕ, zero, suc, ◌+◌, ◌*◌, ◌/◌, ◌%◌, ◌≤◌, ◌<◌}
use native.Mathlib.Omega.{arith}
use native.Mathlib.Nat.{eq-or-lt_of_le, mul-le-mul_left}
use lib.Dec.{eqb, ltb}
use lib.ListN.{length}
use borrow.Author.Tests.{leb-true, eqb-true, eqb-false, eq-eqb, ne_eqb, ltb-true, ltb-false}
use Rattle.common.specs.Outcome.{Outcome, refused, given, Step, after}
use Rattle.aut_steps.specs.Tables.{Limits}
use Rattle.aut_steps.proofs.Facts.{and_true}
use Rattle.image_form.specs.Form.{verify, half_at, check, front_at}
use Rattle.book_steps.specs.Run.{Lent, RunState}
use Rattle.image_steps.specs.Image.{Head, layout, start_of, total, reach, blocks_of}
use Rattle.image_steps.specs.Read.{head_at, unused, head_fits, fresh, looked, enter, records, records_of, then_records, from_head, if_verified, read}

-- ---- what a step comes to

pub data Comes (R : ℕ → Type 0) (Q : RunState → Type 0) : Outcome RunState ℕ → Type 0 where
  stops : {number : ℕ} → R number → Comes R Q (refused number)
  comes : {p : RunState} {x : ℕ} → Q p → Comes R Q (given p x)

pub comes_given : {R : ℕ → Type 0} {Q : RunState → Type 0} {o : Outcome RunState ℕ} {p : RunState} {x : ℕ} → Comes R Q o → o ≡ given p x → Q p
comes_given {R} {Q} {p = p} {x} c e = go (subst (Comes R Q) e c)
  where
    go : Comes R Q (given p x) → Q p
    go (comes q) = q

pub comes_refused : {R : ℕ → Type 0} {Q : RunState → Type 0} {o : Outcome RunState ℕ} {number : ℕ} → Comes R Q o → o ≡ refused number → R number
comes_refused {R} {Q} {number = number} c e = go (subst (Comes R Q) e c)
  where
    go : Comes R Q (refused number) → R number
    go (stops r) = r

pub comes_after : {R : ℕ → Type 0} {P Q : RunState → Type 0} {o : Outcome RunState ℕ} {k : ℕ → Step RunState ℕ}
    → Comes R P o → ((p : RunState) (x : ℕ) → P p → Comes R Q (k x p)) → Comes R Q (after o k)
comes_after (stops r) f = stops r
comes_after (comes {p} {x} q) f = f p x q

-- a step that is either a refusal or gives something
pub comes_if : {R : ℕ → Type 0} {Q : RunState → Type 0} (b : Bool) {o o' : Outcome RunState ℕ} → (b ≡ true → Comes R Q o) → (b ≡ false → Comes R Q o') → Comes R Q (if b then o else o')
comes_if true f g = f refl
comes_if false f g = g refl

-- ---- blocks

-- a block is taken, or refused with 30 or 31
pub data Verified : Option ℕ → Type 0 where
  taken : Verified none
  number : Verified (some 30)
  check_wrong : Verified (some 31)

pub verified : (image : List ℕ) (b : ℕ) → Verified (verify image b)
unfolding verify
verified image b = go (eqb (half_at image (512 * b)) b) (eqb (half_at image (512 * b + 510)) (check (front_at image b)))
  where
    go : (c d : Bool) → Verified (if c then (if d then none else some 31) else some 30)
    go true true = taken
    go true false = check_wrong
    go false d = number

-- block 0 and the blocks that have some of the first n words are taken
abbrev pub Taken : List ℕ → ℕ → Type 0
Taken image n = (b : ℕ) → b < 1 + reach n → verify image b ≡ none

-- ---- runs of records

-- the records of a kind begin where those before them end
module _ (h : Head) where
  pub start1 : 0 + 2 * h.sp ≡ start_of 1 (layout h)
  unfolding start_of
  start1 = omega arith

  pub start2 : start_of 1 (layout h) + 4 * h.spp ≡ start_of 2 (layout h)
  unfolding start_of
  start2 = omega arith

  pub start3 : start_of 2 (layout h) + 1 * h.members ≡ start_of 3 (layout h)
  unfolding start_of
  start3 = omega arith

  pub start4 : start_of 3 (layout h) + 4 * h.states ≡ start_of 4 (layout h)
  unfolding start_of
  start4 = omega arith

  pub start5 : start_of 4 (layout h) + 1 * h.lines ≡ total h
  unfolding start_of
  start5 = omega arith

module _ (image : List ℕ) (h : Head) (L : Limits) (R : ℕ → Type 0) (r30 : R 30) (r31 : R 31) where
  -- the block that a record ends in
  enter_comes : {Q : RunState → Type 0} (s size : ℕ) (p : RunState) → size ≤ 4 → Taken image s → Q p → Comes R (λ q. Q q × Taken image (s + size)) (enter image h L s size p)
  unfolding enter
  enter_comes {Q} s size p l t q = at_test (ltb (reach s) (reach (s + size))) refl
    where
      look : reach s < reach (s + size) → (o : Option ℕ) → Verified o → verify image (reach (s + size)) ≡ o → Comes R (λ q. Q q × Taken image (s + size)) (looked image h L o p)
      look m o taken e =
          comes (q, λ b n. ⊎_elim (λ c. subst (λ (b : ℕ). verify image b ≡ none) (sym c) e) (λ c. t b (omega arith)) (eq-or-lt_of_le {n = b} {m = reach (s + size)} (omega arith)))
      look m o number e = stops r30
      look m o check_wrong e = stops r31

      at_test : (c : Bool) → ltb (reach s) (reach (s + size)) ≡ c
          → Comes R (λ q. Q q × Taken image (s + size)) ((if c then looked image h L (verify image (reach (s + size))) else (λ p. given p 0)) p)
      at_test true e = look (ltb-true _ _ e) (verify image (reach (s + size))) (verified image (reach (s + size))) refl
      at_test false e = comes (q, λ b n. t b (omega (arith, ltb-false (reach s) (reach (s + size)) e)))

  -- P i holds when the records before record i are made: it is so at the end if each record keeps it
  module _ (P : ℕ → RunState → Type 0) (make : ℕ → ℕ → Step RunState ℕ) (size from : ℕ) (small : size ≤ 4)
      (one : (i : ℕ) (p : RunState) → P i p → Comes R (P (i + 1)) (make i (from + size * i) p)) where
    records_on : (k i s n : ℕ) (p : RunState) → s ≡ from + size * i → n ≡ i + k → Taken image s → P i p
        → Comes R (λ q. P n q × Taken image (from + size * n)) (records image h L make size i s k p)
    unfolding records
    records_on zero i s n p e c t a =
        let d : i ≡ n = omega arith in
        comes (subst (λ (j : ℕ). P j p) d a, subst (Taken image) (e ∙ ap (λ (j : ℕ). from + size * j) d) t)
    records_on (suc k) i s n p e c t a =
        comes_after (enter_comes s size p small t a) (λ p x a.
        comes_after (subst (λ (j : ℕ). Comes R (P (i + 1)) (make i j p)) (sym e) (one i p a.0)) (λ p x b.
        records_on k (i + 1) (s + size) n p (omega arith) (omega arith) a.1 b))

    -- the first n records
    pub records_come : (n : ℕ) (p : RunState) → Taken image from → P 0 p → Comes R (λ q. P n q × Taken image (from + size * n)) (records image h L make size 0 from n p)
    records_come n p t a = records_on n 0 from n p (omega arith) (omega arith) t a

-- ---- records that are all made

-- a step that is given, and what comes then
pub after_given : {A B : Type 0} {Store : Type 0} {o : Outcome Store A} {σ : Store} {a : A} (k : A → Step Store B) → o ≡ given σ a → after o k ≡ k a σ
after_given k e = ap (λ o. after o k) e

module _ (image : List ℕ) (h : Head) (L : Limits) (entered : (s size : ℕ) → s + size ≤ total h → (q : RunState) → enter image h L s size q ≡ given q 0) where
  -- n records of `size` words from `start` on; P i is the very place before record i, and value i what its step gives
  module _ (make : ℕ → ℕ → Step RunState ℕ) (size start n : ℕ) (inside : start + size * n ≤ total h) (P : ℕ → RunState) (value : ℕ → ℕ)
      (makes : (i : ℕ) → i < n → make i (start + size * i) (P i) ≡ given (P (i + 1)) (value i)) where
    made_on : (k i s : ℕ) → i + k ≡ n → s ≡ start + size * i → records image h L make size i s k (P i) ≡ given (P n) 0
    unfolding records
    made_on zero i s e q = ap (λ (j : ℕ). given (P j) 0) {x = i} {y = n} (omega arith)
    made_on (suc k) i s e q =
        after_given _ (entered s size (omega (arith, mul-le-mul_left {m = i + 1} {n = n} size (omega arith))) (P i))
        ∙ after_given _ (ap (λ (j : ℕ). make i j (P i)) q ∙ makes i (omega arith))
        ∙ made_on k (i + 1) (s + size) (omega arith) (omega arith)

    pub records_made : records image h L make size 0 start n (P 0) ≡ given (P n) 0
    records_made = made_on n 0 start (omega arith) (omega arith)

-- ---- block 0, and the whole

-- what block 0 asks for
pub record HeadFits (image : List ℕ) (h : Head) : Type 0 where
  pub fields : h.fields ≤ 31
  pub sp : h.sp ≤ 16777216
  pub spp : h.spp ≤ 16777216
  pub members : h.members ≤ 16777216
  pub states : h.states ≤ 32768
  pub lines : h.lines ≤ 2048
  pub blank : unused image 0 8 119 ≡ true
  pub sets : h.fields ≤ h.sp
  pub relations : 3 * h.fields ≤ h.spp
  pub blocks : length image / 512 ≡ blocks_of h

pub head_fits_lem : (image : List ℕ) (h : Head) → head_fits image h ≡ true → HeadFits image h
unfolding head_fits
head_fits_lem image h e =
    let (a, e1) = and_true _ _ e in
    let (b, e2) = and_true _ _ e1 in
    let (c, e3) = and_true _ _ e2 in
    let (d, e4) = and_true _ _ e3 in
    let (f, e5) = and_true _ _ e4 in
    let (g, e6) = and_true _ _ e5 in
    let (i, e7) = and_true _ _ e6 in
    let (j, e8) = and_true _ _ e7 in
    let (k, l) = and_true _ _ e8 in
    record {
      fields = leb-true h.fields 31 a;
      sp = leb-true h.sp 16777216 b;
      spp = leb-true h.spp 16777216 c;
      members = leb-true h.members 16777216 d;
      states = leb-true h.states 32768 f;
      lines = leb-true h.lines 2048 g;
      blank = i;
      sets = leb-true h.fields h.sp j;
      relations = leb-true (3 * h.fields) h.spp k;
      blocks = eqb-true (length image / 512) (blocks_of h) l;
    }

-- what has to hold before the records are read
pub record Opened (image : List ℕ) : Type 0 where
  pub some : ¬ (length image ≡ 0)
  pub whole : length image % 512 ≡ 0
  pub first : verify image 0 ≡ none
  pub fits : HeadFits image (head_at image)

-- an image of a right length
pub read_whole : (lent : Lent) (L : Limits) (image : List ℕ) → 0 < length image → length image % 512 ≡ 0
    → read lent L image ≡ if_verified (verify image 0) (from_head lent L image (head_at image))
unfolding read
read_whole lent L image l m =
    ap₂ (λ (a c : Bool). if a || not c then refused 30 else if_verified (verify image 0) (from_head lent L image (head_at image)))
    (ne_eqb (length image) 0 (omega arith)) (eq-eqb (length image % 512) 0 m)

module _ (lent : Lent) (L : Limits) (image : List ℕ) (R : ℕ → Type 0) (r30 : R 30) (r31 : R 31) (r32 : R 32) where
  pub read_comes : {P Q : RunState → Type 0} → (Opened image → Comes R P (fresh lent (head_at image).fields))
      → (Opened image → (p : RunState) → P p → Comes R Q (records_of image (head_at image) L p)) → Comes R Q (read lent L image)
  unfolding read
  read_comes {P} {Q} starts goes = at_length (eqb (length image) 0) (eqb (length image % 512) 0) refl refl
    where
      begun : Opened image → (o : Outcome RunState ℕ) → Comes R P o → Comes R Q (then_records L image (head_at image) o)
      begun w o (stops r) = stops r
      begun w o (comes {p} q) = goes w p q

      at_head : ¬ (length image ≡ 0) → length image % 512 ≡ 0 → verify image 0 ≡ none → Comes R Q (from_head lent L image (head_at image))
      at_head a b c = comes_if (head_fits image (head_at image))
          (λ e. let w : Opened image = record { some = a; whole = b; first = c; fits = head_fits_lem image (head_at image) e } in begun w (fresh lent (head_at image).fields) (starts w))
          (λ e. stops r32)

      at_first : ¬ (length image ≡ 0) → length image % 512 ≡ 0 → (o : Option ℕ) → Verified o → verify image 0 ≡ o → Comes R Q (if_verified o (from_head lent L image (head_at image)))
      at_first a b o taken e = at_head a b e
      at_first a b o number e = stops r30
      at_first a b o check_wrong e = stops r31

      at_length : (c d : Bool) → eqb (length image) 0 ≡ c → eqb (length image % 512) 0 ≡ d → Comes R Q (if c || not d then refused 30 else if_verified (verify image 0) (from_head lent L image (head_at image)))
      at_length true true a b = stops r30
      at_length true false a b = stops r30
      at_length false false a b = stops r30
      at_length false true a b = at_first (eqb-false (length image) 0 a) (eqb-true (length image % 512) 0 b) (verify image 0) (verified image 0) refl
