-- 02 (ii): "The check is the sum of byte i × (i + 1) over bytes 0 to 509, modulo 65,521", (v): "subtract 65,521 as the sum runs": a turn of its loop; bytes read and stored; "30 for a wrong number, 31 for a wrong check".
use mathlib.Core.Path.{◌≡◌, refl, sym, ◌∙◌, ap, subst}
use mathlib.Core.Bool.{true}
use mathlib.Core.Logic.{◌⊎◌, inl, inr}
use mathlib.Core.List.{List, [], ◌∷◌, ◌++◌, append_assoc}
use mathlib.Core.Option.{none, some}
use Prim.Native.Nat.{ℕ, suc, ◌+◌, ◌-◌, ◌*◌, ◌/◌, ◌%◌, ◌≤◌, ◌<◌}
use native.Mathlib.Omega.{arith}
use native.Mathlib.Nat.{mul-le-mul}
use native.Mathlib.Numerals.{add-one}
use borrow.Rule.Slice.PartMut.{put_mid, Post-is}
use lib.ListN.{length, get_or, take, drop, set}
use lib.Seq.{take-suc, take_all, length-take-le, sets, sets-eq}
use lib.Dec.{eqb}
use borrow.Author.Tests.{eq-eqb, ne_eqb}
use Rattle.image_form.specs.Form.{wide, half_at, weighed, check, front_at, verify}

weighed_last : (i : ℕ) (xs : List ℕ) (x : ℕ) → weighed i (xs ++ x ∷ []) ≡ weighed i xs + x * (i + length xs + 1)
unfolding weighed
weighed_last i [] x = ap (λ (k : ℕ). x * k + 0) {x = i + 1} {y = i + 0 + 1} (omega arith) ∙ omega arith
weighed_last i (y ∷ ys) x =
    let e : x * (i + 1 + length ys + 1) ≡ x * (i + suc (length ys) + 1) = ap (λ (k : ℕ). x * k) (omega arith) in
    omega (arith, weighed_last (i + 1) ys x, e)

-- the bytes of a block weigh little
pub weight : {b k : ℕ} → b < 256 → k ≤ 510 → b * k ≤ 130050
weight {b} l m = mul-le-mul (let h : b ≤ 255 = omega arith in h) m

-- 65,521 is taken off once, where there is that much
abbrev pub Lowered : ℕ → ℕ → Type 0
Lowered a b = ((65521 ≤ a) × (b ≡ a - 65521)) ⊎ ((a < 65521) × (b ≡ a))

-- what one byte adds to a remainder is gone after two of these
lowered_twice : (w x a b : ℕ) → x ≤ 130050 → Lowered (w % 65521 + x) a → Lowered a b → b ≡ (w + x) % 65521
lowered_twice w x a b m (inl p) (inl q) = omega (arith, p.0, p.1, q.0, q.1)
lowered_twice w x a b m (inl p) (inr q) = omega (arith, p.0, p.1, q.0, q.1)
lowered_twice w x a b m (inr p) (inl q) = omega (arith, p.0, p.1, q.0, q.1)
lowered_twice w x a b m (inr p) (inr q) = omega (arith, p.0, p.1, q.0, q.1)

-- i bytes are summed, and the sum is kept below 65,521
pub record Summed (front : List ℕ) (sum i : ℕ) : Type 0 where
  pub most : i ≤ length front
  pub is : sum ≡ weighed 0 (take i front) % 65521
  pub small : sum < 65521

module _ (front : List ℕ) where
  pub sum_begin : Summed front 0 0
  unfolding weighed
  sum_begin = record { most = omega arith; is = refl; small = omega arith }

  -- one byte more is weighed
  weighed_more : (i : ℕ) → i < length front → weighed 0 (take i front) + get_or front i 0 * (i + 1) ≡ weighed 0 (take (i + 1) front)
  weighed_more i l =
      let size : length (take i front) ≡ i = length-take-le i front (omega arith) in
      ap (λ (k : ℕ). weighed 0 (take i front) + get_or front i 0 * k) {x = i + 1} {y = 0 + length (take i front) + 1} (omega arith)
      ∙ sym (weighed_last 0 (take i front) (get_or front i 0))
      ∙ ap (weighed 0) (sym (take-suc front i 0 l))
      ∙ ap (λ (k : ℕ). weighed 0 (take k front)) (sym (add-one i))

  pub sum_again : length front ≤ 510 → (sum i once next : ℕ) → Summed front sum i → get_or front i 0 < 256 → i < length front
      → Lowered (sum + get_or front i 0 * (i + 1)) once → Lowered once next → Summed front next (i + 1)
  sum_again few sum i once next v b l first second =
      let more : ℕ = get_or front i 0 * (i + 1) in
      let from : Lowered (weighed 0 (take i front) % 65521 + more) once = subst (λ (s : ℕ). Lowered (s + more) once) v.is first in
      let two : next ≡ (weighed 0 (take i front) + more) % 65521 = lowered_twice (weighed 0 (take i front)) more once next (weight b (omega arith)) from second in
      let e : next ≡ weighed 0 (take (i + 1) front) % 65521 = two ∙ ap (λ (s : ℕ). s % 65521) (weighed_more i l) in
      record { most = omega arith; is = e; small = omega (arith, e) }

  pub sum_end : (sum i : ℕ) → Summed front sum i → length front ≤ i → sum ≡ check front
  unfolding check
  sum_end sum i v l = v.is ∙ ap (λ (xs : List ℕ). weighed 0 xs % 65521) (take_all i front l)

-- four bytes stored
pub four : (s : List ℕ) (i a b c d : ℕ) → set (set (set (set s i a) (i + 1) b) (i + 2) c) (i + 3) d ≡ sets s i (a ∷ b ∷ c ∷ d ∷ [])
four s i a b c d =
    ap (λ (k : ℕ). set (set (set (set s i a) k b) (i + 2) c) (i + 3) d) {x = i + 1} {y = suc i} (omega arith)
    ∙ ap (λ (k : ℕ). set (set (set (set s i a) (suc i) b) k c) (i + 3) d) {x = i + 2} {y = suc (suc i)} (omega arith)
    ∙ ap (λ (k : ℕ). set (set (set (set s i a) (suc i) b) (suc (suc i)) c) k d) {x = i + 3} {y = suc (suc (suc i))} (omega arith)

-- a word's four, in one part of a slice
pub word_stored : (s : List ℕ) (i w : ℕ) {bytes : List ℕ} → w < 4294967296 → i + 3 < length s → bytes ≡ w / 16777216 % 256 ∷ w / 65536 % 256 ∷ w / 256 % 256 ∷ w % 256 ∷ []
    → put_mid i (i + 4 - i) s bytes ≡ sets s i (wide w)
word_stored s i w small room e =
    ap (put_mid i (i + 4 - i) s) (e ∙ ap (λ (b : ℕ). b ∷ w / 65536 % 256 ∷ w / 256 % 256 ∷ w % 256 ∷ []) {x = w / 16777216 % 256} {y = w / 16777216} (omega arith))
    ∙ ap (λ (r : List ℕ). take i s ++ (wide w ++ r)) (Post-is i (i + 4) s (omega arith))
    ∙ sym (append_assoc (take i s) (wide w) (drop (i + 4) s))
    ∙ sym (sets-eq (wide w) s i (omega arith))

pub check_small : (front : List ℕ) → check front < 65521
unfolding check
check_small front = omega arith

-- ---- what is said of a block

-- the bytes from 512 b to 512 b + 510 are its front
pub front_summed : (image : List ℕ) (b : ℕ) {s : ℕ} → s ≡ check (take (512 * b + 510 - 512 * b) (drop (512 * b) image)) → s ≡ check (front_at image b)
front_summed image b e = e ∙ ap (λ (k : ℕ). check (take k (drop (512 * b) image))) {y = 510} (omega arith)

module _ (image : List ℕ) (b : ℕ) {n : ℕ} (number : n ≡ half_at image (512 * b)) where
  pub wrong_number : (n ≡ b → ⊥) → verify image b ≡ some 30
  unfolding verify
  wrong_number ne = simp (ne_eqb (half_at image (512 * b)) b (λ e. ne (number ∙ e)))

  module _ {m s : ℕ} (same : n ≡ b) (stored : m ≡ half_at image (512 * b + 510)) (sum : s ≡ check (front_at image b)) where
    right_number : eqb (half_at image (512 * b)) b ≡ true
    right_number = eq-eqb (half_at image (512 * b)) b (sym number ∙ same)

    pub wrong_check : (m ≡ s → ⊥) → verify image b ≡ some 31
    unfolding verify
    wrong_check ne = simp (right_number, ne_eqb (half_at image (512 * b + 510)) (check (front_at image b)) (λ e. ne (stored ∙ e ∙ sym sum)))

    pub whole : m ≡ s → verify image b ≡ none
    unfolding verify
    whole e = simp (right_number, eq-eqb (half_at image (512 * b + 510)) (check (front_at image b)) (sym stored ∙ e ∙ sum))
