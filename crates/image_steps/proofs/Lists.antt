-- Words of a table: those that stand in a row, and a table that is filled from its front, the rest of it 0 (02 (ii): "a new book's constants, then each record again").
use mathlib.Core.Path.{◌≡◌, refl, sym, ◌∙◌, ap, ap₂}
use mathlib.Core.List.{List, [], ◌∷◌, ◌++◌, append_assoc}
use mathlib.Core.Logic.{◌⊎◌, ⊎_elim}
use Prim.Native.Nat.{ℕ, zero, suc, ◌+◌, ◌*◌, ◌-◌, ◌≤◌, ◌<◌}
use native.Mathlib.Omega.{arith}
use native.Mathlib.Nat.{mul-le-mul_left}
use native.Mathlib.Numerals.{add-one, add-two, add-three}
use lib.Dec.{ltb}
use lib.ListN.{length, get_or, set, take, drop, length-append, get_or-append, length-replicate, replicate-append-replicate}
use lib.Seq.{sets, sets-eq, length-take-le, take_at, drop-append-add, take-add, drop-cons, ext_get_or, get_or-append-add}
use borrow.Author.Tests.{ltb-true, ltb-false}
use Rattle.sp_steps.proofs.Make.{by_test}
use Rattle.aut_steps.specs.Tables.{words}
use Rattle.book_steps.specs.Run.{zeroed}
use Rattle.image_steps.specs.Claims.{cut_to}

-- ---- a few words

pub split : (i n : ℕ) → (i < n) ⊎ (n ≤ i)
split i n = by_test (ltb i n) (λ e. ◌⊎◌.inl (ltb-true i n e)) (λ e. ◌⊎◌.inr (ltb-false i n e))

-- an element behind the first list
pub get_or_behind : (xs ys : List ℕ) (i n : ℕ) → length xs ≡ n → get_or (xs ++ ys) (n + i) 0 ≡ get_or ys i 0
get_or_behind xs ys i n e = ap (λ (k : ℕ). get_or (xs ++ ys) (k + i) 0) (sym e) ∙ get_or-append-add xs ys i 0

pub two : (P : ℕ → Type 0) → P 0 → P 1 → (j : ℕ) → j < 2 → P j
two P a b zero l = a
two P a b (suc zero) l = b
two P a b (suc (suc j)) l = absurd (omega arith)

pub four : (P : ℕ → Type 0) → P 0 → P 1 → P 2 → P 3 → (j : ℕ) → j < 4 → P j
four P a b c d zero l = a
four P a b c d (suc zero) l = b
four P a b c d (suc (suc zero)) l = c
four P a b c d (suc (suc (suc zero))) l = d
four P a b c d (suc (suc (suc (suc j)))) l = absurd (omega arith)

pub words_at : (s : List ℕ) (a k j : ℕ) → j < k → get_or (words s a k) j 0 ≡ get_or s (a + j) 0
unfolding words
words_at s a zero j l = absurd (omega arith)
words_at s a (suc k) zero l = ap (λ (i : ℕ). get_or s i 0) {x = a} {y = a + 0} (omega arith)
words_at s a (suc k) (suc j) l = words_at s (a + 1) k j (omega arith) ∙ ap (λ (i : ℕ). get_or s i 0) {x = a + 1 + j} {y = a + suc j} (omega arith)

-- a list that is put together of pieces of w words each
module _ (w : ℕ) (all piece : ℕ → List ℕ) (none : all 0 ≡ []) (more : (n : ℕ) → all (suc n) ≡ all n ++ piece n) (wide : (n : ℕ) → length (piece n) ≡ w) where
  pub pieces_length : (n : ℕ) → length (all n) ≡ w * n
  pieces_length zero = ap length none ∙ omega arith
  pieces_length (suc n) = ap length (more n) ∙ length-append (all n) (piece n) ∙ omega (arith, pieces_length n, wide n)

  pub pieces_at : (n x j : ℕ) → x < n → j < w → get_or (all n) (w * x + j) 0 ≡ get_or (piece x) j 0
  pieces_at zero x j l m = absurd (omega arith)
  pieces_at (suc n) x j l m =
      ap (λ (t : List ℕ). get_or t (w * x + j) 0) (more n)
      ∙ ⊎_elim
      (λ q. get_or-append (all n) (piece n) 0 (w * x + j) (omega (arith, pieces_length n, mul-le-mul_left {m = x + 1} {n = n} w (omega arith))) ∙ pieces_at n x j q m)
      (λ q. let e : n ≡ x = omega arith in
      ap (λ (k : ℕ). get_or (all n ++ piece n) (w * k + j) 0) (sym e) ∙ get_or_behind (all n) (piece n) j (w * n) (pieces_length n) ∙ ap (λ (k : ℕ). get_or (piece k) j 0) e)
      (split x n)

-- ---- filled from the front

-- xs, and zeros up to `room` words
abbrev pub filled : (room : ℕ) → List ℕ → List ℕ
filled room xs = xs ++ zeroed (room - length xs)

-- ---- elements

pub get_or_zeroed : (n i : ℕ) → get_or (zeroed n) i 0 ≡ 0
get_or_zeroed zero i = refl
get_or_zeroed (suc n) zero = refl
get_or_zeroed (suc n) (suc i) = get_or_zeroed n i

-- behind xs there is nothing
pub get_or_padded : (xs : List ℕ) (n i : ℕ) → get_or (xs ++ zeroed n) i 0 ≡ get_or xs i 0
get_or_padded [] n i = get_or_zeroed n i
get_or_padded (x ∷ xs) n zero = refl
get_or_padded (x ∷ xs) n (suc i) = get_or_padded xs n i

pub get_or_filled : (room : ℕ) (xs : List ℕ) (i : ℕ) → get_or (filled room xs) i 0 ≡ get_or xs i 0
get_or_filled room xs i = get_or_padded xs (room - length xs) i

pub length_filled : (room : ℕ) (xs : List ℕ) → length xs ≤ room → length (filled room xs) ≡ room
length_filled room xs l = simp (length-append, length-replicate) (omega arith)

-- a table of that length with these words
pub filled_is : (room : ℕ) (xs t : List ℕ) → length xs ≤ room → length t ≡ room → ((i : ℕ) → get_or t i 0 ≡ get_or xs i 0) → t ≡ filled room xs
filled_is room xs t l e f = ext_get_or 0 t (filled room xs) (e ∙ sym (length_filled room xs l)) (λ i m. f i ∙ sym (get_or_filled room xs i))

-- ---- more words

pub filled_sets : (room : ℕ) (xs vs : List ℕ) (n : ℕ) → length xs ≡ n → n + length vs ≤ room → sets (filled room xs) n vs ≡ filled room (xs ++ vs)
filled_sets room xs vs n e l =
    sets-eq vs (filled room xs) n (omega (arith, length_filled room xs (omega arith)))
    ∙ ap₂ (λ (a b : List ℕ). a ++ vs ++ b) (take_at xs (zeroed (room - length xs)) n e)
    (ap (λ (k : ℕ). drop (k + length vs) (filled room xs)) (sym e) ∙ drop-append-add xs (zeroed (room - length xs)) (length vs) ∙ rest (length vs) (room - length xs)
    ∙ ap zeroed {x = room - length xs - length vs} {y = room - length (xs ++ vs)} (omega (arith, length-append xs vs)))
  where
    rest : (k n : ℕ) → drop k (zeroed n) ≡ zeroed (n - k)
    rest zero n = ap zeroed {x = n} {y = n - 0} (omega arith)
    rest (suc k) zero = ap zeroed {x = 0} {y = 0 - suc k} (omega arith)
    rest (suc k) (suc n) = rest k n ∙ ap zeroed {x = n - k} {y = suc n - suc k} (omega arith)

-- zeros at its end are as good as none
pub filled_zeros : (room : ℕ) (xs : List ℕ) (n : ℕ) → length xs + n ≤ room → filled room (xs ++ zeroed n) ≡ filled room xs
filled_zeros room xs n l =
    append_assoc xs (zeroed n) (zeroed (room - length (xs ++ zeroed n)))
    ∙ ap (λ (r : List ℕ). xs ++ r)
    (replicate-append-replicate n (room - length (xs ++ zeroed n)) 0
    ∙ ap zeroed {x = n + (room - length (xs ++ zeroed n))} {y = room - length xs} (omega (arith, length-append xs (zeroed n), length-replicate {A = ℕ} n 0)))

-- the next k words of a list
words_take : (t : List ℕ) (n k : ℕ) → n + k ≤ length t → words t n k ≡ take k (drop n t)
unfolding words
words_take t n zero l = refl
words_take t n (suc k) l =
    ap (λ (r : List ℕ). get_or t n 0 ∷ r) (words_take t (n + 1) k (omega arith) ∙ ap (λ (j : ℕ). take k (drop j t)) {x = n + 1} {y = suc n} (omega arith))
    ∙ ap (take (suc k)) (sym (drop-cons t n 0 (omega arith)))

pub take_words : (t : List ℕ) (n k : ℕ) → n + k ≤ length t → take n t ++ words t n k ≡ take (n + k) t
take_words t n k l = ap (λ (r : List ℕ). take n t ++ r) (words_take t n k l) ∙ sym (take-add n k t)

-- four words, one after another
pub set4 : (t : List ℕ) (i a b c d : ℕ) → set (set (set (set t i a) (i + 1) b) (i + 2) c) (i + 3) d ≡ sets t i (a ∷ b ∷ c ∷ d ∷ [])
set4 t i a b c d = simp (add-one, add-two, add-three)

pub words4 : (t : List ℕ) (i : ℕ) → words t i 4 ≡ get_or t i 0 ∷ get_or t (i + 1) 0 ∷ get_or t (i + 2) 0 ∷ get_or t (i + 3) 0 ∷ []
unfolding words
words4 t i =
    let p : i + 1 + 1 ≡ i + 2 = omega arith in
    let q : i + 1 + 1 + 1 ≡ i + 3 = omega arith in
    ap₂ (λ (j k : ℕ). get_or t i 0 ∷ get_or t (i + 1) 0 ∷ get_or t j 0 ∷ get_or t k 0 ∷ []) p q

pub cut_filled : (room n : ℕ) (t : List ℕ) → n ≤ length t → cut_to room n t ≡ filled room (take n t)
cut_filled room n t l = ap (λ (k : ℕ). take n t ++ zeroed (room - k)) (sym (length-take-le n t l))
