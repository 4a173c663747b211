-- A number below 2^64 that is written is read again as it was: its digits are a number by 01's form.
use Rattle.std.specs.Prelude.{if◌then◌else◌}
use mathlib.Core.Path.{◌≡◌, refl, sym, ◌∙◌, ap, subst}
use mathlib.Core.Bool.{Bool, true, false, ◌&&◌}
use mathlib.Core.List.{List, [], ◌∷◌, ◌++◌, append_assoc, append-nil}
use mathlib.Core.Option.{some}
use Prim.Native.Nat.{ℕ, zero, suc, ◌+◌, ◌*◌, ◌-◌, ◌/◌, ◌%◌, ◌^◌, ◌≤◌, ◌<◌}
use native.Mathlib.Omega.{arith}
use lib.Dec.{leb, ltb}
use borrow.Author.Tests.{lt-ltb, le-leb, ltb-true, ltb-false}
use Rattle.book_steps.specs.Text.{digit, digits, reading, plain, number, decimal_by, decimal}

reading_append : (n : ℕ) (v w : List ℕ) → reading n (v ++ w) ≡ reading (reading n v) w
unfolding reading
reading_append n [] w = refl
reading_append n (b ∷ v) w = reading_append (10 * n + (b - 48)) v w

and_of : (x y : Bool) → x ≡ true → y ≡ true → (x && y) ≡ true
and_of true y p q = q
and_of false y p q = p

and_left : (x y : Bool) → (x && y) ≡ true → x ≡ true
and_left true y p = refl
and_left false y p = p

and_right : (x y : Bool) → (x && y) ≡ true → y ≡ true
and_right true y p = p
and_right false true p = refl
and_right false false p = p

digits_append : (v w : List ℕ) → digits v ≡ true → digits w ≡ true → digits (v ++ w) ≡ true
unfolding digits
digits_append [] w p q = q
digits_append (b ∷ v) w p q = and_of (digit b) (digits (v ++ w)) (and_left (digit b) (digits v) p) (digits_append v w (and_right (digit b) (digits v) p) q)

digit_of : (n : ℕ) → n < 10 → digit (48 + n) ≡ true
digit_of n l = and_of (leb 48 (48 + n)) (leb (48 + n) 57) (le-leb 48 (48 + n) (omega arith)) (le-leb (48 + n) 57 (omega arith))

-- a word of digits that is n; its first digit is 0 only if n is
pub record Writes (n : ℕ) (w : List ℕ) : Type 0 where
  pub reads : reading 0 w ≡ n
  pub digits : digits w ≡ true
  pub some : (v : List ℕ) → 0 < n → plain (w ++ v) ≡ true

one_digit : (n : ℕ) → n < 10 → Writes n ((48 + n) ∷ [])
unfolding reading digits
one_digit n l = record {
  reads = omega arith;
  digits = and_of (digit (48 + n)) true (digit_of n l) refl;
  some = λ v p. first v p;
}
  where
    first : (v : List ℕ) → 0 < n → plain ((48 + n) ∷ v) ≡ true
    first [] p = refl
    first (c ∷ v) p = lt-ltb 48 (48 + n) (omega arith)

more_digits : (n : ℕ) → 10 ≤ n → {w : List ℕ} → Writes (n / 10) w → Writes n (w ++ (48 + n % 10) ∷ [])
unfolding reading digits
more_digits n l {w} p = record {
  reads = reading_append 0 w ((48 + n % 10) ∷ []) ∙ ap (λ (m : ℕ). 10 * m + (48 + n % 10 - 48)) p.reads ∙ omega arith;
  digits = digits_append w ((48 + n % 10) ∷ []) p.digits (and_of (digit (48 + n % 10)) true (digit_of (n % 10) (omega arith)) refl);
  some = λ v q. subst (λ (u : List ℕ). plain u ≡ true) (sym (append_assoc w ((48 + n % 10) ∷ []) v)) (p.some ((48 + n % 10) ∷ v) (omega arith));
}

below : (k n : ℕ) → n < 10 ^ suc (suc k) → n / 10 < 10 ^ suc k
below k n l = omega (arith, l)

plain_of : (n : ℕ) → {w : List ℕ} → Writes n w → 0 < n → plain w ≡ true
plain_of n {w} p l = subst (λ (u : List ℕ). plain u ≡ true) (append-nil w) (p.some [] l)

writes_by : (k n : ℕ) → n < 10 ^ suc k → Writes n (decimal_by k n)
unfolding decimal_by
writes_by zero n l = one_digit n (omega arith)
writes_by (suc k) n l = at (ltb n 10) refl (writes_by k (n / 10) (below k n l))
  where
    at : (b : Bool) → ltb n 10 ≡ b → Writes (n / 10) (decimal_by k (n / 10)) → Writes n (if b then (48 + n) ∷ [] else (decimal_by k (n / 10) ++ (48 + n % 10) ∷ []))
    at true e p = one_digit n (ltb-true n 10 e)
    at false e p = more_digits n (ltb-false n 10 e) p

plain_decimal : (n : ℕ) → n < 10 ^ 20 → plain (decimal n) ≡ true
unfolding decimal decimal_by
plain_decimal zero l = refl
plain_decimal (suc n) l = plain_of (suc n) (writes_by 19 (suc n) l) (omega arith)

pub decimal_read : (n : ℕ) → n < 2 ^ 64 → number (decimal n) ≡ some n
unfolding number decimal
decimal_read n l = simp (plain_decimal n (omega arith), (writes_by 19 n (omega arith)).digits, (writes_by 19 n (omega arith)).reads, lt-ltb n (2 ^ 64) l)
