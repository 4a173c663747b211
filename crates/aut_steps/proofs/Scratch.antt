-- What holds of the definitions of specs/Scratch.
use Rattle.std.specs.Prelude.{if◌then◌else◌}
use mathlib.Core.Path.{◌≡◌, refl, ◌∙◌, ap, ap₂, subst}
use mathlib.Core.Bool.{Bool, true, false}
use mathlib.Core.List.{List, [], ◌∷◌, ◌++◌}
use Prim.Native.Nat.{ℕ, zero, suc, ◌+◌, ◌-◌, ◌≤◌, ◌<◌}
use native.Mathlib.Omega.{arith}
use lib.ListN.{length, get_or}
use lib.Seq.{sets}
use Rattle.aut_steps.specs.Tables.{words}
use Rattle.aut_steps.specs.Intern.{seek}
use Rattle.aut_steps.specs.Ascending.{All}
use Rattle.aut_steps.proofs.Facts.{words_same, words_sets, sets_below, sets_above}
use Rattle.aut_steps.specs.Scratch.{Kept}

left_of_lem : (n i : ℕ) → i < n → n - i ≡ suc (n - (i + 1))
left_of_lem n i l = omega arith

-- ---- a search that has come to i of n

pub seek_here : (f : ℕ → Bool) (n i : ℕ) → i < n → f i ≡ true → seek f i (n - i) ≡ i
unfolding seek
seek_here f n i l e = ap (seek f i) (left_of_lem n i l) ∙ ap (λ (c : Bool). if c then i else seek f (i + 1) (n - (i + 1))) e

pub seek_on : (f : ℕ → Bool) (n i : ℕ) → i < n → f i ≡ false → seek f i (n - i) ≡ seek f (i + 1) (n - (i + 1))
unfolding seek
seek_on f n i l e = ap (seek f i) (left_of_lem n i l) ∙ ap (λ (c : Bool). if c then i else seek f (i + 1) (n - (i + 1))) e

pub seek_end : (f : ℕ → Bool) (n i : ℕ) → n ≤ i → seek f i (n - i) ≡ i
unfolding seek
seek_end f n i m = ap (seek f i) {x = n - i} {y = 0} (omega arith)

-- a search that begins behind places where there is nothing to find
pub seek_skip : (f : ℕ → Bool) (n j : ℕ) → j ≤ n → ((i : ℕ) → i < j → f i ≡ false) → seek f 0 n ≡ seek f j (n - j)
seek_skip f n zero l e = ap (seek f 0) {x = n} {y = n - 0} (omega arith)
seek_skip f n (suc j) l e =
    seek_skip f n j (omega arith) (λ i m. e i (omega arith)) ∙ seek_on f n j (omega arith) (e j (omega arith))
    ∙ ap₂ (seek f) {x = j + 1} {y = suc j} {u = n - (j + 1)} {v = n - suc j} (omega arith) (omega arith)

-- ---- a list of k words from a on, of which j are done

pub words_on : (s : List ℕ) (a k j : ℕ) → j < k → words s (a + j) (k - j) ≡ get_or s (a + j) 0 ∷ words s (a + (j + 1)) (k - (j + 1))
unfolding words
words_on s a k j l = ap (words s (a + j)) (left_of_lem k j l) ∙ ap (λ (b : ℕ). get_or s (a + j) 0 ∷ words s b (k - (j + 1))) {x = a + j + 1} {y = a + (j + 1)} (omega arith)

pub words_done : (s : List ℕ) (a k j : ℕ) → k ≤ j → words s a (k - j) ≡ []
unfolding words
words_done s a k j l = ap (words s a) {x = k - j} {y = 0} (omega arith)

-- where a loop begins
pub from_0 : {A : Type 0} (f : ℕ → ℕ → A) (a k : ℕ) → f a k ≡ f (a + 0) (k - 0)
from_0 f a k = ap₂ f {x = a} {y = a + 0} {u = k} {v = k - 0} (omega arith) (omega arith)

pub words_split : (s : List ℕ) (a m n : ℕ) → words s a (m + n) ≡ words s a m ++ words s (a + m) n
unfolding words
words_split s a zero n = ap₂ (words s) {x = a} {y = a + 0} {u = 0 + n} {v = n} (omega arith) (omega arith)
words_split s a (suc m) n =
    ap (words s a) {x = suc m + n} {y = suc (m + n)} (omega arith)
    ∙ ap (λ (l : List ℕ). get_or s a 0 ∷ l) (words_split s (a + 1) m n ∙ ap (λ (b : ℕ). words s (a + 1) m ++ words s b n) {x = a + 1 + m} {y = a + suc m} (omega arith))

pub all_word : (P : ℕ → Type 0) (s : List ℕ) (b k j : ℕ) → j < k → All P (words s b k) → P (get_or s (b + j) 0)
unfolding words
all_word P s b zero j l a = absurd (omega arith)
all_word P s b (suc k) zero l a = subst (λ (i : ℕ). P (get_or s i 0)) {x = b} {y = b + 0} (omega arith) a.0
all_word P s b (suc k) (suc j) l a = subst (λ (i : ℕ). P (get_or s i 0)) {x = b + 1 + j} {y = b + suc j} (omega arith) (all_word P s (b + 1) k j (omega arith) a.1)

pub kept_refl : (a n : ℕ) (s : List ℕ) → Kept a n s s
kept_refl a n s = record { below = λ i l. refl; above = λ i l. refl }

pub kept_trans : {a n : ℕ} {s t u : List ℕ} → Kept a n s t → Kept a n t u → Kept a n s u
kept_trans p q = record { below = λ i l. q.below i l ∙ p.below i l; above = λ i l. q.above i l ∙ p.above i l }

pub kept_wide : {a n b m : ℕ} {s t : List ℕ} → Kept b m s t → a ≤ b → b + m ≤ a + n → Kept a n s t
kept_wide p l r = record { below = λ i k. p.below i (omega arith); above = λ i k. p.above i (omega arith) }

pub kept_sets : (ys s : List ℕ) (a n b : ℕ) → a ≤ b → b + length ys ≤ a + n → Kept a n s (sets s b ys)
kept_sets ys s a n b l r = record { below = λ i k. sets_below ys s b i (omega arith); above = λ i k. sets_above ys s b i (omega arith) }

pub words_below : {a n : ℕ} {s t : List ℕ} (b k : ℕ) → Kept a n s t → b + k ≤ a → words t b k ≡ words s b k
words_below {s = s} {t = t} b k p l = words_same s t b k (λ i x y. p.below i (omega arith))

pub words_above : {a n : ℕ} {s t : List ℕ} (b k : ℕ) → Kept a n s t → a + n ≤ b → words t b k ≡ words s b k
words_above {s = s} {t = t} b k p l = words_same s t b k (λ i x y. p.above i (omega arith))

-- a list of m words at a gets ys behind it
pub words_append : (s ys : List ℕ) (a m n : ℕ) → n ≡ length ys → a + m + n ≤ length s → words (sets s (a + m) ys) a (m + n) ≡ words s a m ++ ys
words_append s ys a m n e l =
    words_split (sets s (a + m) ys) a m n
    ∙ ap₂ (λ (x y : List ℕ). x ++ y)
    (words_same s (sets s (a + m) ys) a m (λ i x y. sets_below ys s (a + m) i (omega arith)))
    (ap (words (sets s (a + m) ys) (a + m)) e ∙ words_sets ys s (a + m) (omega (arith, e)))
