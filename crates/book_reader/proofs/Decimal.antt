-- A word's digits read from the left: each behind the number that those before it are, which stays below 2^64 or is past it for good.
use Rattle.std.specs.Prelude.{◌≢◌, if◌then◌else◌}
use mathlib.Core.Path.{◌≡◌, refl, sym, ◌∙◌, ap}
use mathlib.Core.Bool.{Bool, true, false, ◌&&◌}
use mathlib.Core.List.{List, [], ◌∷◌}
use mathlib.Core.Option.{none, some}
use Prim.Native.Nat.{ℕ, ◌+◌, ◌*◌, ◌-◌, ◌^◌, ◌≤◌, ◌<◌}
use native.Mathlib.Omega.{arith}
use native.Mathlib.Nat.{le_trans}
use Rattle.std.proofs.lemmas.List.{drop_more, drop_all}
use lib.Dec.{ltb, leb}
use lib.ListN.{length, drop, get_or}
use borrow.Author.Tests.{lt-ltb, le-ltb, lt-leb, ltb-false}
use Rattle.book_steps.specs.Text.{digit, digits, reading, plain, number}
use Rattle.book_reader.specs.Clauses.{value}

-- a number only grows by the digits behind it
grows : (n : ℕ) (w : List ℕ) → n ≤ reading n w
unfolding reading
grows n [] = omega arith
grows n (b ∷ w) = le_trans (omega arith) (grows (10 * n + (b - 48)) w)

value_if : (w : List ℕ) (n : ℕ) → digits w ≡ true → reading 0 w ≡ n → n < 2 ^ 64 → value w ≡ some n
unfolding value
value_if w n p q l = simp (p, q, lt-ltb n (2 ^ 64) l)

value_not : (w : List ℕ) → digits w ≡ false → value w ≡ none
unfolding value
value_not w p = simp p

value_past : (w : List ℕ) → 2 ^ 64 ≤ reading 0 w → value w ≡ none
unfolding value
value_past w h = ap (λ (b : Bool). if digits w && b then some (reading 0 w) else none) (le-ltb (reading 0 w) (2 ^ 64) h) ∙ at (digits w)
  where
    at : (b : Bool) → (if b && false then some (reading 0 w) else none) ≡ none
    at true = refl
    at false = refl

-- the first i bytes are the digits of n
pub record Reading (w : List ℕ) (n i : ℕ) : Type 0 where
  pub small : n < 2 ^ 64
  pub digits : digits w ≡ digits (drop i w)
  pub is : reading 0 w ≡ reading n (drop i w)

module _ {w : List ℕ} where
  pub begin_reading : Reading w 0 0
  begin_reading = record { small = omega arith; digits = refl; is = refl }

  module _ {n i : ℕ} (R : Reading w n i) (h : i < length w) where
    first : drop i w ≡ get_or w i 0 ∷ drop (i + 1) w
    first = drop_more w i 0 h

    digits_first : digits w ≡ (digit (get_or w i 0) && digits (drop (i + 1) w))
    unfolding digits
    digits_first = R.digits ∙ ap digits first

    is_first : reading 0 w ≡ reading (n * 10 + (get_or w i 0 - 48)) (drop (i + 1) w)
    unfolding reading
    is_first = R.is ∙ ap (reading n) first ∙ ap (λ (m : ℕ). reading m (drop (i + 1) w)) {x = 10 * n + (get_or w i 0 - 48)} {y = n * 10 + (get_or w i 0 - 48)} (omega arith)

    pub no_digit : digit (get_or w i 0) ≡ false → value w ≡ none
    no_digit e = value_not w (digits_first ∙ ap (λ (b : Bool). b && digits (drop (i + 1) w)) e)

    -- the next digit is too much
    pub past : 2 ^ 64 ≤ n * 10 + (get_or w i 0 - 48) → value w ≡ none
    past l = value_past w (le_trans l (le_trans (grows (n * 10 + (get_or w i 0 - 48)) (drop (i + 1) w)) (omega (arith, is_first))))

    pub next_digit : {m : ℕ} → digit (get_or w i 0) ≡ true → m ≡ n * 10 + (get_or w i 0 - 48) → m < 2 ^ 64 → Reading w m (i + 1)
    next_digit e f s = record {
      small = s;
      digits = digits_first ∙ ap (λ (b : Bool). b && digits (drop (i + 1) w)) e;
      is = is_first ∙ ap (λ (m : ℕ). reading m (drop (i + 1) w)) (sym f);
    }

  pub all_digits : {n i : ℕ} → Reading w n i → length w ≤ i → value w ≡ some n
  unfolding digits reading
  all_digits {n} {i} R h = value_if w n (R.digits ∙ ap digits end) (R.is ∙ ap (reading n) end) R.small
    where
      end : drop i w ≡ []
      end = drop_all i w h

-- ---- no leading zero, but for 0 itself

pub no_bytes : (w : List ℕ) → length w < 1 → number w ≡ none
unfolding number
no_bytes [] l = refl
no_bytes (b ∷ w) l = absurd (omega arith)

pub leading : (w : List ℕ) → 2 ≤ length w → get_or w 0 0 ≡ 48 → number w ≡ none
unfolding number
leading [] h e = absurd (omega arith)
leading (b ∷ []) h e = absurd (omega arith)
leading (b ∷ c ∷ w) h e = ap (λ (t : Bool). if t && digits (b ∷ c ∷ w) && ltb (reading 0 (b ∷ c ∷ w)) (2 ^ 64) then some (reading 0 (b ∷ c ∷ w)) else none) (le-ltb 48 b (omega (arith, e)))

plain_value : (w : List ℕ) → plain w ≡ true → number w ≡ value w
unfolding number value
plain_value w p = simp p

-- .. a first byte below `0` is no digit
low_value : (b : ℕ) (w : List ℕ) → b < 48 → number (b ∷ w) ≡ value (b ∷ w)
unfolding number value digits
low_value b w l = ap (λ (t : Bool). if plain (b ∷ w) && (t && leb b 57 && digits w) && ltb (reading 0 (b ∷ w)) (2 ^ 64) then some (reading 0 (b ∷ w)) else none) (lt-leb 48 b l)
    ∙ at (plain (b ∷ w)) (leb b 57) (digits w) (ltb (reading 0 (b ∷ w)) (2 ^ 64))
    ∙ sym (value_not (b ∷ w) (ap (λ (t : Bool). t && leb b 57 && digits w) (lt-leb 48 b l)))
  where
    at : (p q d l : Bool) → (if p && (false && q && d) && l then some (reading 0 (b ∷ w)) else none) ≡ none
    at true q d l = refl
    at false q d l = refl

pub one_digit : (w : List ℕ) → 1 ≤ length w → length w < 2 → number w ≡ value w
one_digit [] n h = absurd (omega arith)
one_digit (b ∷ []) n h = plain_value (b ∷ []) refl
one_digit (b ∷ c ∷ w) n h = absurd (omega arith)

pub no_zero : (w : List ℕ) → 2 ≤ length w → get_or w 0 0 ≢ 48 → number w ≡ value w
no_zero [] n l = absurd (omega arith)
no_zero (b ∷ []) n l = absurd (omega arith)
no_zero (b ∷ c ∷ w) n l = at (ltb 48 b) refl
  where
    at : (t : Bool) → ltb 48 b ≡ t → number (b ∷ c ∷ w) ≡ value (b ∷ c ∷ w)
    at true e = plain_value (b ∷ c ∷ w) e
    at false e = low_value b (c ∷ w) (omega (arith, ltb-false 48 b e, l))
