-- The table of lines: what its words stand for.
use Rattle.std.specs.Prelude as code
use mathlib.Core.Path.{◌≡◌, refl, sym, ◌∙◌, ap, ap₂}
use mathlib.Core.Bool.{Bool, true, false}
use mathlib.Core.Logic.{⊎_elim}
use mathlib.Core.List.{List, [], ◌∷◌, ◌++◌}
use mathlib.Core.Option.{Option, none, some}
use Prim.Native.Nat.{ℕ, zero, suc, ◌+◌, ◌-◌, ◌≤◌, ◌<◌}
use native.Mathlib.Omega.{arith}
use native.Mathlib.Nat.{eq-or-lt_of_le}
use lib.Dec.{ltb}
use lib.ListN.{length, get_or, set, take, length-append, get_or-append, get_or-eq_default}
use lib.Seq.{get_or_at, get_or-set_same, get_or-set_other, get_or-take, length-take-le}
use borrow.Author.Tests.{ltb-true, ltb-false}
use Rattle.book_memory.specs.Place.{stands_for, word_of, lines_of, Below}

pub lines_length : (s : List ℕ) (k : ℕ) → length (lines_of s k) ≡ k
unfolding lines_of
lines_length s zero = refl
lines_length s (suc k) = omega (arith, length-append (lines_of s k) (stands_for (get_or s k 0) ∷ []), lines_length s k)

pub lines_same : (s t : List ℕ) (k : ℕ) → ((i : ℕ) → i < k → get_or t i 0 ≡ get_or s i 0) → lines_of t k ≡ lines_of s k
unfolding lines_of
lines_same s t zero f = refl
lines_same s t (suc k) f = ap₂ (λ (l : List (Option ℕ)) (w : ℕ). l ++ stands_for w ∷ []) (lines_same s t k (λ i l. f i (omega arith))) (f k (omega arith))

pub line_beyond : (s : List ℕ) (k a : ℕ) → k ≤ a → get_or (lines_of s k) a none ≡ none
line_beyond s k a l = get_or-eq_default (lines_of s k) none (omega (arith, lines_length s k))

pub line_named : (s : List ℕ) (k a : ℕ) → a < k → get_or (lines_of s k) a none ≡ stands_for (get_or s a 0)
unfolding lines_of
line_named s zero a l = absurd (omega arith)
line_named s (suc k) a l = ⊎_elim
    (λ e. ap (λ (j : ℕ). get_or (lines_of s k ++ stands_for (get_or s k 0) ∷ []) j none) e ∙ get_or_at (lines_of s k) (stands_for (get_or s k 0)) [] none k (lines_length s k) ∙ ap (λ (j : ℕ). stands_for (get_or s j 0)) (sym e))
    (λ m. get_or-append (lines_of s k) (stands_for (get_or s k 0) ∷ []) none a (omega (arith, lines_length s k)) ∙ line_named s k a m)
    (eq-or-lt_of_le (let x : a ≤ k = omega arith in x))

-- a line more
pub lines_set : (s : List ℕ) (k v : ℕ) → k < length s → lines_of (set s k v) (suc k) ≡ lines_of s k ++ stands_for v ∷ []
unfolding lines_of
lines_set s k v l = ap₂ (λ (ls : List (Option ℕ)) (w : ℕ). ls ++ stands_for w ∷ []) (lines_same s (set s k v) k (λ i m. get_or-set_other s k i v 0 (λ e. omega arith))) (get_or-set_same s k v 0 l)

-- .. by its word in code
pub lines_more : (s : List ℕ) (k : ℕ) {v w : ℕ} → k < length s → v ≡ w → lines_of (set s k v) (k + 1) ≡ lines_of s k ++ stands_for w ∷ []
lines_more s k {v} {w} l e = ap (lines_of (set s k v)) (let f : k + 1 ≡ suc k = omega arith in f) ∙ lines_set s k v l ∙ ap (λ (x : ℕ). lines_of s k ++ stands_for x ∷ []) e

-- a word less 1, if it is not 0, is the line that it stands for
pub stands_less : (w : ℕ) (r : code.Option ℕ) → code.SomeIff r (1 ≤ w) (w - 1) → stands_for (word_of r) ≡ stands_for w
stands_less w (code.Some x) (n, e) = ap stands_for (let f : suc x ≡ w = omega arith in f)
stands_less w code.None n = ap stands_for (let f : 0 ≡ w = omega arith in f)

-- ---- a line that is read, from the words of the lines so far

module _ (s : List ℕ) (k i : ℕ) (l : k ≤ length s) where
  inside : ltb i (length (take k s)) ≡ true → i < k
  inside t = omega (arith, ltb-true i (length (take k s)) t, length-take-le k s l)

  pub line_not : ltb i (length (take k s)) ≡ false → get_or (lines_of s k) i none ≡ none
  line_not t = line_beyond s k i (omega (arith, ltb-false i (length (take k s)) t, length-take-le k s l))

  pub line_read : {w : ℕ} (r : code.Option ℕ) → ltb i (length (take k s)) ≡ true → w ≡ get_or (take k s) i 0 → code.SomeIff r (1 ≤ w) (w - 1) → get_or (lines_of s k) i none ≡ stands_for (word_of r)
  line_read {w} r t e q = line_named s k i (inside t) ∙ ap stands_for (sym (e ∙ get_or-take k s i 0 (inside t))) ∙ sym (stands_less w r q)

module _ {n n' : ℕ} (lines : List (Option ℕ)) (B : Below n lines) (g : n ≤ n') (v : Option ℕ) (f : (x : ℕ) → v ≡ some x → x < n') where
  pub below_more : Below n' (lines ++ v ∷ [])
  below_more a x e = go (ltb a (length lines)) refl
    where
      go : (b : Bool) → ltb a (length lines) ≡ b → x < n'
      go true t = let l : a < length lines = ltb-true a (length lines) t in
          let m : x < n = B a x (sym (get_or-append lines (v ∷ []) none a l) ∙ e) in omega arith
      go false t = let l : length lines ≤ a = ltb-false a (length lines) t in
          ⊎_elim
          (λ q. f x (sym (get_or_at lines v [] none a q) ∙ e))
          (λ m. let z : none ≡ some x = sym (get_or-eq_default (lines ++ v ∷ []) none (omega (arith, length-append lines (v ∷ [])))) ∙ e in absurd (let y : ◌≡◌ {A = ℕ} 0 1 = cc in omega arith))
          (eq-or-lt_of_le l)
