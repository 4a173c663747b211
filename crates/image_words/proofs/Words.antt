-- 02 (ii): words behind the records, the words of all records, what block 0 asks for, and the block that a record reaches.
use Rattle.std.specs.Prelude.{if◌then◌else◌, Result, Ok, Err, ◌↔◌, IsTrue, EachIndex, slice_index}
use mathlib.Core.Path.{◌≡◌, refl, sym, ◌∙◌, ap, ap₂}
use mathlib.Core.Bool.{Bool, true, false, ◌&&◌}
use mathlib.Core.List.{List}
use mathlib.Core.Option.{Option}
use Prim.Native.Nat.{ℕ, zero, suc, ◌+◌, ◌*◌, ◌-◌, ◌/◌, ◌≤◌, ◌<◌}
use native.Mathlib.Omega.{arith}
use lib.Dec.{eqb, leb}
use lib.ListN.{length, get_or, take, drop}
use borrow.Author.Tests.{eq-eqb, eqb-true, lt-ltb, le-ltb}
use mathlib.Core.Logic.{⊎_elim}
use Rattle.std.proofs.lemmas.Bool.{cases_lt}
use Rattle.std.proofs.lemmas.List.{get_or-take, get_or-drop, length-take-le, length-drop}
use Rattle.aut_steps.proofs.Facts.{and_true}
use Rattle.sp_steps.proofs.Make.{false_true}
use Rattle.common.specs.Outcome.{given}
use Rattle.sp_steps.specs.Model as Sp
use Rattle.spp_steps.specs.Model as Spp
use Rattle.aut_steps.specs.Tables.{Limits}
use Rattle.book_steps.specs.Run.{RunState, instructions}
use Rattle.image_form.specs.Form.{word_at, wide_at, half_at, verify}
use Rattle.image_block.specs.Clauses.{looked_of}
use Rattle.refusal.specs.declared.Refusal.{Refusal}
use Rattle.image_steps.specs.Image as Image
use Rattle.image_steps.specs.Image.{reach, layout, start_of, blocks_of}
use Rattle.image_steps.specs.Read as Read
use Rattle.image_steps.specs.Read.{unused, head_fits}
use Rattle.image_words.specs.Clauses.{counts_fit, PostHead, Reaches, Entered, entered_by}

-- ---- unused words

-- a word is 0 if its four bytes are, and the other way round
word_0 : (image : List ℕ) (b j : ℕ) → ((i : ℕ) → 512 * b + (2 + 4 * j) ≤ i → i < 512 * b + (2 + 4 * j) + 4 → get_or image i 0 ≡ 0) → word_at image b j ≡ 0
unfolding wide_at half_at
word_0 image b j f =
    let a = 512 * b + (2 + 4 * j) in
    omega (arith, f a (omega arith) (omega arith), f (a + 1) (omega arith) (omega arith), f (a + 2) (omega arith) (omega arith), f (a + 2 + 1) (omega arith) (omega arith))

bytes_0 : (image : List ℕ) (b j : ℕ) → word_at image b j ≡ 0 → (i : ℕ) → 512 * b + (2 + 4 * j) ≤ i → i < 512 * b + (2 + 4 * j) + 4 → get_or image i 0 ≡ 0
unfolding wide_at half_at
bytes_0 image b j e i l m =
    let a = 512 * b + (2 + 4 * j) in
    let z0 : get_or image a 0 ≡ 0 = omega (arith, e) in
    let z1 : get_or image (a + 1) 0 ≡ 0 = omega (arith, e) in
    let z2 : get_or image (a + 2) 0 ≡ 0 = omega (arith, e) in
    let z3 : get_or image (a + 2 + 1) 0 ≡ 0 = omega (arith, e) in
    let at = λ (x : ℕ). get_or image x 0 in
    ⊎_elim (λ p. ap at {x = i} {y = a} (omega (arith, l, p)) ∙ z0)
    (λ p. ⊎_elim (λ q. ap at {x = i} {y = a + 1} (omega (arith, p, q)) ∙ z1)
    (λ q. ⊎_elim (λ r. ap at {x = i} {y = a + 2} (omega (arith, q, r)) ∙ z2) (λ r. ap at {x = i} {y = a + 2 + 1} (omega (arith, r, m)) ∙ z3) (cases_lt i (a + 3))) (cases_lt i (a + 2)))
    (cases_lt i (a + 1))

unused_yes : (image : List ℕ) (b j k : ℕ) → ((i : ℕ) → 512 * b + (2 + 4 * j) ≤ i → i < 512 * b + (2 + 4 * j) + 4 * k → get_or image i 0 ≡ 0) → unused image b j k ≡ true
unfolding unused
unused_yes image b j zero f = refl
unused_yes image b j (suc k) f =
    ap₂ ◌&&◌ (eq-eqb (word_at image b j) 0 (word_0 image b j (λ i l m. f i l (omega (arith, m))))) (unused_yes image b (j + 1) k (λ i l m. f i (omega (arith, l)) (omega (arith, m))))

unused_at : (image : List ℕ) (b j k : ℕ) → unused image b j k ≡ true → (i : ℕ) → 512 * b + (2 + 4 * j) ≤ i → i < 512 * b + (2 + 4 * j) + 4 * k → get_or image i 0 ≡ 0
unfolding unused
unused_at image b j zero e i l m = absurd (omega (arith, l, m))
unused_at image b j (suc k) e i l m =
    ⊎_elim (λ p. bytes_0 image b j (eqb-true (word_at image b j) 0 (and_true _ _ e).0) i l p)
    (λ p. unused_at image b (j + 1) k (and_true _ _ e).1 i (omega (arith, p)) (omega (arith, m)))
    (cases_lt i (512 * b + (2 + 4 * j) + 4))

not_true : (x : Bool) → (x ≡ true → ⊥) → x ≡ false
not_true true f = absurd (f refl)
not_true false f = refl

-- a test of each byte is that of the words
module _ (image part : List ℕ) (b j k a : ℕ) (at : a ≡ 512 * b + (2 + 4 * j)) (in_it : a + 4 * k ≤ length image) (is : part ≡ take (a + 4 * k - a) (drop a image)) where
  long : length part ≡ 4 * k
  long = omega (arith, ap length is, length-take-le (a + 4 * k - a) (drop a image) (omega (arith, length-drop a image)))

  byte : (i : ℕ) → i < 4 * k → get_or part i 0 ≡ get_or image (a + i) 0
  byte i l = ap (λ (xs : List ℕ). get_or xs i 0) is ∙ get_or-take (a + 4 * k - a) (drop a image) i 0 (omega (arith, l)) ∙ get_or-drop a image i 0

  pub unused_by : (r : Bool) → (IsTrue r ↔ EachIndex part (λ i. slice_index part i ≡ 0)) → unused image b j k ≡ r
  unused_by true (f, g) = unused_yes image b j k (λ i l m.
      ap (λ (x : ℕ). get_or image x 0) {x = i} {y = a + (i - a)} (omega (arith, at, l)) ∙ sym (byte (i - a) (omega (arith, at, l, m))) ∙ f refl (i - a) (omega (arith, at, l, m, long)))
  unused_by false (f, g) = not_true (unused image b j k) (λ e. false_true (g (λ i l.
      byte i (omega (arith, l, long)) ∙ unused_at image b j k e (a + i) (omega (arith, at)) (omega (arith, at, l, long)))))

-- ---- the words of the records

module _ (h : Image.Head) where
  pub start_1 : start_of 1 (layout h) ≡ 2 * h.sp
  unfolding start_of
  start_1 = omega arith

  pub start_2 : start_of 2 (layout h) ≡ 2 * h.sp + 4 * h.spp
  unfolding start_of
  start_2 = omega arith

  pub start_3 : start_of 3 (layout h) ≡ 2 * h.sp + 4 * h.spp + h.members
  unfolding start_of
  start_3 = omega arith

  pub start_4 : start_of 4 (layout h) ≡ 2 * h.sp + 4 * h.spp + h.members + 4 * h.states
  unfolding start_of
  start_4 = omega arith

  pub start_5 : Image.total h ≡ 2 * h.sp + 4 * h.spp + h.members + 4 * h.states + h.lines
  unfolding start_of
  start_5 = omega arith

-- ---- block 0

-- the tests in the order of the code
moved : (a b c d e f u i j k : Bool) → (a && (b && (c && (d && (e && (f && (u && (i && (j && k))))))))) ≡ ((a && (b && (c && (d && (e && (f && (i && j))))))) && (u && k))
moved true true true true true true true true j k = refl
moved true true true true true true true false j k = refl
moved true true true true true true false true true k = refl
moved true true true true true true false true false k = refl
moved true true true true true true false false j k = refl
moved true true true true true false u i j k = refl
moved true true true true false f u i j k = refl
moved true true true false e f u i j k = refl
moved true true false d e f u i j k = refl
moved true false c d e f u i j k = refl
moved false b c d e f u i j k = refl

module _ (image : List ℕ) (h : Image.Head) where
  tested : head_fits image h ≡ (counts_fit h && (unused image 0 8 119 && eqb (length image / 512) (blocks_of h)))
  unfolding head_fits
  tested =
      moved (leb h.fields 31) (leb h.sp Sp.most) (leb h.spp Spp.cap) (leb h.members 16777216) (leb h.states 32768) (leb h.lines instructions) (unused image 0 8 119)
      (leb h.fields h.sp) (leb (3 * h.fields) h.spp) (eqb (length image / 512) (blocks_of h))

  pub no_counts : counts_fit h ≡ false → head_fits image h ≡ false
  no_counts e = tested ∙ ap (λ (c : Bool). c && (unused image 0 8 119 && eqb (length image / 512) (blocks_of h))) e

  module _ (e : counts_fit h ≡ true) where
    counted : head_fits image h ≡ (unused image 0 8 119 && eqb (length image / 512) (blocks_of h))
    counted = tested ∙ ap (λ (c : Bool). c && (unused image 0 8 119 && eqb (length image / 512) (blocks_of h))) e

    pub no_blank : unused image 0 8 119 ≡ false → head_fits image h ≡ false
    no_blank u = counted ∙ ap (λ (c : Bool). c && eqb (length image / 512) (blocks_of h)) u

    pub by_length : {n : ℕ} → unused image 0 8 119 ≡ true → n ≡ blocks_of h → head_fits image h ≡ eqb (length image / 512) n
    by_length u q = counted ∙ ap₂ (λ (c : Bool) (m : ℕ). c && eqb (length image / 512) m) u (sym q)

-- ---- the block that a record reaches

-- an image with as many blocks as the first m words need has those of fewer words
pub reaches : (image : List ℕ) (m n : ℕ) → length image / 512 ≡ 1 + reach m → n ≤ m → Reaches image n
reaches image m n e l = omega arith

module _ (image : List ℕ) (s size : ℕ) where
  pub entered_there : {m n : ℕ} → m ≡ reach s → n ≡ reach (s + size) → n ≤ m → Entered image s size (Ok tt)
  unfolding Read.enter
  entered_there p q l h L x =
      ap (λ (b : Bool). (if b then Read.looked image h L (verify image (reach (s + size))) else (λ y. given y 0)) x) (le-ltb _ _ (omega (arith, p, q, l)))

  look : (r : Result Unit Refusal) → (h : Image.Head) (L : Limits) (p : RunState) → Read.looked image h L (looked_of r) p ≡ entered_by r p
  look (Ok u) h L p = refl
  look (Err e) h L p = refl

  pub entered_new : (r : Result Unit Refusal) {m n : ℕ} → m ≡ reach s → n ≡ reach (s + size) → m < n → verify image n ≡ looked_of r → Entered image s size r
  unfolding Read.enter
  entered_new r p q l e h L x =
      ap (λ (b : Bool). (if b then Read.looked image h L (verify image (reach (s + size))) else (λ y. given y 0)) x) (lt-ltb _ _ (omega (arith, p, q, l)))
      ∙ ap (λ (o : Option ℕ). Read.looked image h L o x) (ap (verify image) (sym q) ∙ e)
      ∙ look r h L x

-- ---- block 0 as it is read

pub head_is : (image : List ℕ) {a b c d e f g i : ℕ} → a ≡ word_at image 0 0 → b ≡ word_at image 0 1 → c ≡ word_at image 0 2 → d ≡ word_at image 0 3 → e ≡ word_at image 0 4
    → f ≡ word_at image 0 5 → g ≡ word_at image 0 6 → i ≡ word_at image 0 7
    → d < 4294967296 → e < 4294967296 → f < 4294967296 → g < 4294967296 → i < 4294967296
    → PostHead image (record { fields = a; budget = 4294967296 * b + c; sp = d; spp = e; members = f; states = g; lines = i })
unfolding Read.head_at
head_is image {a} {b} {c} {d} {e} {f} {g} {i} pa pb pc pd pe pf pg pi ld le lf lg li = record {
  is = cc;
  small = record { sp = ld; spp = le; members = lf; states = lg; lines = li };
}
