-- The words of a list as part of a slice: what copying and comparing parts comes to.
use Rattle.std.specs.Prelude.{if◌then◌else◌}
use mathlib.Core.Path.{◌≡◌, refl, sym, ◌∙◌, ap}
use mathlib.Core.Bool.{Bool, true, false, ◌&&◌}
use mathlib.Core.List.{List, [], ◌∷◌, ◌++◌}
use Prim.Native.Nat.{ℕ, zero, suc, ◌+◌, ◌-◌, ◌<◌, ◌≤◌}
use native.Mathlib.Omega.{arith}
use lib.Dec.{eqb, eqb-suc-suc, eqb-suc-zero, eqb-zero-suc}
use lib.ListN.{length, get_or, take, drop}
use lib.Seq.{sets, sets-eq, drop-cons}
use lib.Pointwise.{pointwise}
use borrow.Rule.Slice.PartMut.{put_mid}
use Rattle.std.proofs.lemmas.Slice.{put_mid-paste}
use Rattle.aut_steps.specs.Tables.{words}
use Rattle.aut_steps.specs.Intern.{same_at}

pub words_take : (s : List ℕ) (a k : ℕ) → a + k ≤ length s → words s a k ≡ take k (drop a s)
unfolding words
words_take s a zero l = refl
words_take s a (suc k) l =
    ap (λ (r : List ℕ). get_or s a 0 ∷ r) (words_take s (a + 1) k (omega arith) ∙ ap (λ (j : ℕ). take k (drop j s)) {x = a + 1} {y = suc a} (omega arith))
    ∙ ap (take (suc k)) (sym (drop-cons s a 0 (omega arith)))

pub word_of : (s : List ℕ) (a k j : ℕ) → j < k → get_or (words s a k) j 0 ≡ get_or s (a + j) 0
unfolding words
word_of s a zero j l = absurd (omega arith)
word_of s a (suc k) zero l = ap (λ (i : ℕ). get_or s i 0) {x = a} {y = a + 0} (omega arith)
word_of s a (suc k) (suc j) l = word_of s (a + 1) k j (omega arith) ∙ ap (λ (i : ℕ). get_or s i 0) {x = a + 1 + j} {y = a + suc j} (omega arith)

-- the part of s from a to a + k
pub part : (s : List ℕ) (a k : ℕ) → a + k ≤ length s → words s a k ≡ take (a + k - a) (drop a s)
part s a k l = words_take s a k l ∙ ap (λ (n : ℕ). take n (drop a s)) {x = k} {y = a + k - a} (omega arith)

take_all : (xs : List ℕ) → take (length xs) xs ≡ xs
take_all [] = refl
take_all (x ∷ xs) = ap (λ (r : List ℕ). x ∷ r) (take_all xs)

-- ---- copying

-- z is what lies in the part now
pub pasted : (d z xs : List ℕ) (m n : ℕ) → z ≡ xs → n ≡ length xs → m + n ≤ length d → sets d m xs ≡ put_mid m (m + n - m) d z
pasted d z xs m n e q l =
    sets-eq xs d m (omega (arith, q))
    ∙ ap (λ (ys : List ℕ). take m d ++ ys ++ drop (m + length xs) d) (sym (take_all xs))
    ∙ sym (put_mid-paste m (m + n - m) d z xs (length xs) e (omega (arith, q)) refl)

-- ---- comparing

in_turn : (c d b : Bool) → (if c then (if d then b else false) else false) ≡ (d && (if c then b else false))
in_turn true true b = refl
in_turn true false b = refl
in_turn false true b = refl
in_turn false false b = refl

-- n words of m and a list
pub same_words : (m xs : List ℕ) (a n : ℕ) → (if eqb n (length xs) then same_at m a xs else false) ≡ pointwise eqb (words m a n) xs
unfolding same_at words
same_words m [] a zero = refl
same_words m [] a (suc n) = ap (λ (c : Bool). if c then true else false) (eqb-suc-zero n)
same_words m (x ∷ xs) a zero = ap (λ (c : Bool). if c then same_at m a (x ∷ xs) else false) (eqb-zero-suc (length xs))
same_words m (x ∷ xs) a (suc n) =
    ap (λ (c : Bool). if c then same_at m a (x ∷ xs) else false) (eqb-suc-suc n (length xs))
    ∙ in_turn (eqb n (length xs)) (eqb (get_or m a 0) x) (same_at m (a + 1) xs)
    ∙ ap (λ (b : Bool). eqb (get_or m a 0) x && b) (same_words m xs (a + 1) n)
