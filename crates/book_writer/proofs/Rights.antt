-- A number's digits counted, and written from the right.
use Rattle.std.specs.Prelude.{if◌then◌else◌}
use mathlib.Core.Path.{◌≡◌, refl, sym, ◌∙◌, ap, subst}
use mathlib.Core.Bool.{Bool, true, false}
use mathlib.Core.List.{List, [], ◌∷◌, ◌++◌}
use Prim.Native.Nat.{ℕ, zero, suc, ◌+◌, ◌-◌, ◌/◌, ◌%◌, ◌^◌, ◌*◌, ◌≤◌, ◌<◌, max}
use native.Mathlib.Omega.{arith}
use lib.Dec.{ltb}
use lib.ListN.{length, get_or, set, length-append, length-set, get_or-append}
use lib.Seq.{get_or_at, get_or-set_same, get_or-set_other}
use borrow.Author.Tests.{ltb-true, ltb-false, lt-ltb, le-ltb}
use Rattle.book_steps.specs.Text.{decimal_by, decimal}
use Rattle.book_steps.specs.Sentence.{bit_bytes}
use Rattle.book_steps.proofs.Sentence.{bits_last}
use Rattle.book_writer.specs.Clauses.{PutAt, last_digits}

-- ---- how many digits a number has

pub short : (f m : ℕ) → m < 10 → decimal_by f m ≡ (48 + m) ∷ []
unfolding decimal_by
short zero m l = refl
short (suc f) m l = simp (lt-ltb m 10 l)

pub long : (f m : ℕ) → 10 ≤ m → decimal_by (suc f) m ≡ decimal_by f (m / 10) ++ (48 + m % 10) ∷ []
unfolding decimal_by
long f m l = simp (le-ltb m 10 l)

pub longer : (f m : ℕ) → 10 ≤ m → length (decimal_by (suc f) m) ≡ length (decimal_by f (m / 10)) + 1
longer f m l = ap length (long f m l) ∙ length-append (decimal_by f (m / 10)) ((48 + m % 10) ∷ [])

lower : (f m : ℕ) → m < 10 ^ suc (suc f) → m / 10 < 10 ^ suc f
lower f m l = omega (arith, l)

some_power : (k : ℕ) → 1 ≤ 10 ^ k
some_power zero = omega arith
some_power (suc k) = omega (arith, some_power k)

by_power : (f k n : ℕ) → k ≤ f → (1 ≤ k → 10 ^ k ≤ n) → n < 10 * 10 ^ k → length (decimal_by f n) ≡ k + 1
by_power f zero n l h m = ap length (short f n (omega arith))
by_power zero (suc k) n l h m = absurd (omega arith)
by_power (suc f) (suc k) n l h m =
    let p : 10 ^ suc k ≤ n = h (omega arith) in
    let q : 1 ≤ 10 ^ k = some_power k in
    omega (arith, longer f n (omega arith), by_power f k (n / 10) (omega arith) (λ _. omega arith) (omega arith))

-- .. by the power of ten below it, or below 1 for 0
pub digits_by : (n m k : ℕ) → m ≡ max n 1 → 10 ^ k ≤ m → m < 10 * 10 ^ k → k < 20 → k + 1 ≡ length (decimal n)
unfolding decimal
digits_by n m k e l h f = sym (by_power 19 k n (omega arith) (at k l) (omega arith))
  where
    at : (k : ℕ) → 10 ^ k ≤ m → 1 ≤ k → 10 ^ k ≤ n
    at zero l h = absurd (omega arith)
    at (suc k) l h = let q : 1 ≤ 10 ^ k = some_power k in omega arith

-- a number has at most 20 digits
pub most_by : (f n : ℕ) → length (decimal_by f n) ≤ suc f
unfolding decimal_by
most_by zero n = omega arith
most_by (suc f) n = at (ltb n 10) (most_by f (n / 10))
  where
    at : (b : Bool) → length (decimal_by f (n / 10)) ≤ suc f → length (if b then (48 + n) ∷ [] else (decimal_by f (n / 10) ++ (48 + n % 10) ∷ [])) ≤ suc (suc f)
    at true p = omega arith
    at false p = omega (arith, length-append (decimal_by f (n / 10)) ((48 + n % 10) ∷ []))

pub most_digits : (n : ℕ) → length (decimal n) ≤ 20
unfolding decimal
most_digits n = most_by 19 n

-- ---- the last k digits

last_digits_length : (base k m : ℕ) → length (last_digits base k m) ≡ k
unfolding last_digits
last_digits_length base zero m = refl
last_digits_length base (suc k) m = length-append (last_digits base k (m / base)) ((48 + m % base) ∷ []) ∙ omega (arith, last_digits_length base k (m / base))

last_digits_last : (base k m : ℕ) → get_or (last_digits base (suc k) m) k 0 ≡ 48 + m % base
unfolding last_digits
last_digits_last base k m = get_or_at (last_digits base k (m / base)) (48 + m % base) [] 0 k (last_digits_length base k (m / base))

last_digits_other : (base k m j : ℕ) → j < k → get_or (last_digits base (suc k) m) j 0 ≡ get_or (last_digits base k (m / base)) j 0
unfolding last_digits
last_digits_other base k m j l = get_or-append (last_digits base k (m / base)) ((48 + m % base) ∷ []) 0 j (omega (arith, last_digits_length base k (m / base)))

last_digits_more : (base k m : ℕ) → last_digits base (suc k) m ≡ last_digits base k (m / base) ++ (48 + m % base) ∷ []
unfolding last_digits
last_digits_more base k m = refl

-- ---- those of a number are its decimal

decimal_one : (m : ℕ) → m < 10 → last_digits 10 1 m ≡ (48 + m) ∷ []
unfolding last_digits
decimal_one m l = ap (λ (x : ℕ). (48 + x) ∷ []) {x = m % 10} {y = m} (omega arith)

decimal_by_lem : (f n : ℕ) → n < 10 ^ suc f → last_digits 10 (length (decimal_by f n)) n ≡ decimal_by f n
decimal_by_lem zero n l = ap (λ (ds : List ℕ). last_digits 10 (length ds) n) (short 0 n (omega arith)) ∙ decimal_one n (omega arith) ∙ sym (short 0 n (omega arith))
decimal_by_lem (suc f) n l = go (ltb n 10) refl (decimal_by_lem f (n / 10) (lower f n l))
  where
    go : (b : Bool) → ltb n 10 ≡ b → last_digits 10 (length (decimal_by f (n / 10))) (n / 10) ≡ decimal_by f (n / 10) → last_digits 10 (length (decimal_by (suc f) n)) n ≡ decimal_by (suc f) n
    go true e p =
        let m : n < 10 = ltb-true n 10 e in
        ap (λ (ds : List ℕ). last_digits 10 (length ds) n) (short (suc f) n m) ∙ decimal_one n m ∙ sym (short (suc f) n m)
    go false e p =
        let m : 10 ≤ n = ltb-false n 10 e in
        ap (λ (k : ℕ). last_digits 10 k n) {x = length (decimal_by (suc f) n)} {y = suc (length (decimal_by f (n / 10)))} (omega (arith, longer f n m))
        ∙ last_digits_more 10 (length (decimal_by f (n / 10))) n
        ∙ ap (λ (ds : List ℕ). ds ++ (48 + n % 10) ∷ []) p
        ∙ sym (long f n m)

pub decimal_are : (n : ℕ) → n < 2 ^ 64 → last_digits 10 (length (decimal n)) n ≡ decimal n
unfolding decimal
decimal_are n l = decimal_by_lem 19 n (omega arith)

-- ---- .. or its bits

pub bits_are : (n m : ℕ) → last_digits 2 n m ≡ bit_bytes n m
unfolding last_digits bit_bytes
bits_are zero m = refl
bits_are (suc n) m = ap (λ (ds : List ℕ). ds ++ (48 + m % 2) ∷ []) (bits_are n (m / 2)) ∙ sym (bits_last n m)

-- ---- writing from the right: i digits, those of m, are to come

pub record Drawn (s₀ : List ℕ) (at base k n : ℕ) (s : List ℕ) (m i : ℕ) : Type 0 where
  pub most : i ≤ k
  pub len : length s ≡ length s₀
  pub left : (j : ℕ) → j < i → get_or (last_digits base i m) j 0 ≡ get_or (last_digits base k n) j 0
  pub is : (j : ℕ) → i ≤ j → j < k → get_or s (at + j) 0 ≡ get_or (last_digits base k n) j 0
  pub below : (j : ℕ) → j < at → get_or s j 0 ≡ get_or s₀ j 0
  pub above : (j : ℕ) → at + k ≤ j → get_or s j 0 ≡ get_or s₀ j 0

module _ (s₀ : List ℕ) (at base k n : ℕ) where
  pub drawn_begin : Drawn s₀ at base k n s₀ n k
  drawn_begin = record {
    most = omega arith;
    len = refl;
    left = λ j l. refl;
    is = λ j l h. absurd (omega arith);
    below = λ j l. refl;
    above = λ j l. refl;
  }

  drawn_suc : (room : at + k ≤ length s₀) (s : List ℕ) (m i : ℕ) → Drawn s₀ at base k n s m (suc i) → Drawn s₀ at base k n (set s (at + i) (48 + m % base)) (m / base) i
  drawn_suc room s m i v = record {
    most = omega (arith, v.most);
    len = length-set s (at + i) (48 + m % base) ∙ v.len;
    left = λ j l. sym (last_digits_other base i m j l) ∙ v.left j (omega arith);
    is = λ j l h. go j l h (ltb i j) refl;
    below = λ j l. get_or-set_other s (at + i) j (48 + m % base) 0 (λ e. omega arith) ∙ v.below j l;
    above = λ j l. get_or-set_other s (at + i) j (48 + m % base) 0 (λ e. omega (arith, v.most)) ∙ v.above j l;
  }
    where
      go : (j : ℕ) → i ≤ j → j < k → (b : Bool) → ltb i j ≡ b → get_or (set s (at + i) (48 + m % base)) (at + j) 0 ≡ get_or (last_digits base k n) j 0
      go j l h true e =
          let a : i < j = ltb-true i j e in
          get_or-set_other s (at + i) (at + j) (48 + m % base) 0 (λ e. omega arith) ∙ v.is j (omega arith) h
      go j l h false e =
          let a : j ≤ i = ltb-false i j e in
          ap (λ (x : ℕ). get_or (set s (at + i) (48 + m % base)) (at + x) 0) {x = j} {y = i} (omega arith)
          ∙ get_or-set_same s (at + i) (48 + m % base) 0 (omega (arith, v.len, v.most))
          ∙ sym (last_digits_last base i m)
          ∙ v.left i (omega arith)
          ∙ ap (λ (x : ℕ). get_or (last_digits base k n) x 0) {x = i} {y = j} (omega arith)

  pub drawn_again : at + k ≤ length s₀ → (s : List ℕ) (m i : ℕ) → Drawn s₀ at base k n s m i → 0 < i → Drawn s₀ at base k n (set s (at + (i - 1)) (48 + m % base)) (m / base) (i - 1)
  drawn_again room s m i v h = drawn_suc room s m (i - 1) (subst (λ (x : ℕ). Drawn s₀ at base k n s m x) {x = i} {y = suc (i - 1)} (omega arith) v)

  pub drawn_end : at + k ≤ length s₀ → (s : List ℕ) (m i : ℕ) → Drawn s₀ at base k n s m i → i ≤ 0 → PutAt at (last_digits base k n) (at + k) s₀ s
  drawn_end room s m i v z = record {
    behind = omega (arith, last_digits_length base k n);
    room = room;
    wrote = record {
      len = v.len;
      is = λ j h. v.is j (omega arith) (omega (arith, last_digits_length base k n));
      below = v.below;
      above = λ j h. v.above j (omega (arith, last_digits_length base k n));
    };
  }
