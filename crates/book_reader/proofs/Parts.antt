-- A text at its first byte 10, and a line at its first space: byte by byte.
use Rattle.std.specs.Prelude.{if◌then◌else◌}
use Rattle.std.proofs.lemmas.Slice.{between_to_end}
use mathlib.Core.Path.{◌≡◌, refl, sym, ◌∙◌, ap, ap₂}
use mathlib.Core.Bool.{Bool, true, false}
use mathlib.Core.List.{List, [], ◌∷◌}
use Prim.Native.Nat.{ℕ, suc, ◌+◌, ◌-◌, ◌≤◌, ◌<◌}
use native.Mathlib.Omega.{arith}
use lib.Dec.{eqb}
use lib.ListN.{length, take, drop}
use Rattle.book_reader.specs.Bytes.{index_of, index_after}
use Rattle.book_steps.specs.Text.{line, unended, before, cut, on_first, words}

-- ---- lines

cut_at : (l : List ℕ) → index_of 10 l < length l → cut l ≡ line (take (index_of 10 l) l) (drop (suc (index_of 10 l)) l)
unfolding cut index_of index_after
cut_at [] h = absurd (omega arith)
cut_at (b ∷ l) h = at (eqb b 10) h (cut_at l)
  where
    at : (t : Bool) → index_after t (index_of 10 l) < suc (length l) → (index_of 10 l < length l → cut l ≡ line (take (index_of 10 l) l) (drop (suc (index_of 10 l)) l))
        → (if t then line [] l else before b (cut l)) ≡ line (take (index_after t (index_of 10 l)) (b ∷ l)) (drop (suc (index_after t (index_of 10 l))) (b ∷ l))
    at true h i = refl
    at false h i = ap (before b) (i (omega arith))

pub cut_not : (l : List ℕ) → index_of 10 l ≡ length l → cut l ≡ unended
unfolding cut index_of index_after
cut_not [] h = refl
cut_not (b ∷ l) h = at (eqb b 10) h (cut_not l)
  where
    at : (t : Bool) → index_after t (index_of 10 l) ≡ suc (length l) → (index_of 10 l ≡ length l → cut l ≡ unended) → (if t then line [] l else before b (cut l)) ≡ unended
    at true h i = absurd (omega arith)
    at false h i = ap (before b) (i (omega arith))

-- a line in front, of k bytes, as the code cuts it out
pub some_line : (text : List ℕ) {k : ℕ} → k ≡ index_of 10 text → k < length text → cut text ≡ line (take k text) (take (length text - (k + 1)) (drop (k + 1) text))
some_line text {k} e l = cut_at text (omega (arith, e, l)) ∙ at (index_of 10 text) e
  where
    at : (i : ℕ) → k ≡ i → line (take i text) (drop (suc i) text) ≡ line (take k text) (take (length text - (k + 1)) (drop (k + 1) text))
    at i e = ap₂ line (ap (λ (n : ℕ). take n text) (sym e)) (ap (λ (n : ℕ). drop n text) {x = suc i} {y = k + 1} (omega (arith, e)) ∙ sym (between_to_end text (k + 1) (length text) (omega arith)))

-- ---- words

words_at : (l : List ℕ) → index_of 32 l < length l → words l ≡ take (index_of 32 l) l ∷ words (drop (suc (index_of 32 l)) l)
unfolding words index_of index_after
words_at [] h = absurd (omega arith)
words_at (b ∷ l) h = at (eqb b 32) h (words_at l)
  where
    at : (t : Bool) → index_after t (index_of 32 l) < suc (length l) → (index_of 32 l < length l → words l ≡ take (index_of 32 l) l ∷ words (drop (suc (index_of 32 l)) l))
        → (if t then [] ∷ words l else on_first b (words l)) ≡ take (index_after t (index_of 32 l)) (b ∷ l) ∷ words (drop (suc (index_after t (index_of 32 l))) (b ∷ l))
    at true h i = refl
    at false h i = ap (on_first b) (i (omega arith))

pub words_last : (l : List ℕ) → index_of 32 l ≡ length l → words l ≡ l ∷ []
unfolding words index_of index_after
words_last [] h = refl
words_last (b ∷ l) h = at (eqb b 32) h (words_last l)
  where
    at : (t : Bool) → index_after t (index_of 32 l) ≡ suc (length l) → (index_of 32 l ≡ length l → words l ≡ l ∷ []) → (if t then [] ∷ words l else on_first b (words l)) ≡ (b ∷ l) ∷ []
    at true h i = absurd (omega arith)
    at false h i = ap (on_first b) (i (omega arith))

-- a word in front, of k bytes, and the words behind it
pub next_word : (l : List ℕ) {k : ℕ} → k ≡ index_of 32 l → k < length l → words l ≡ take k l ∷ words (take (length l - (k + 1)) (drop (k + 1) l))
next_word l {k} e h = words_at l (omega (arith, e, h)) ∙ at (index_of 32 l) e
  where
    at : (i : ℕ) → k ≡ i → ◌≡◌ {A = List (List ℕ)} (take i l ∷ words (drop (suc i) l)) (take k l ∷ words (take (length l - (k + 1)) (drop (k + 1) l)))
    at i e = ap₂ (λ (w v : List ℕ). w ∷ words v) (ap (λ (n : ℕ). take n l) (sym e)) (ap (λ (n : ℕ). drop n l) {x = suc i} {y = k + 1} (omega (arith, e)) ∙ sym (between_to_end l (k + 1) (length l) (omega arith)))

-- there are no more words than bytes and one
pub words_few : (l : List ℕ) → length (words l) ≤ suc (length l)
unfolding words
words_few [] = omega arith
words_few (b ∷ l) = at (eqb b 32) (words l) (words_few l)
  where
    at : (t : Bool) (ws : List (List ℕ)) → length ws ≤ suc (length l) → length (if t then [] ∷ ws else on_first b ws) ≤ suc (suc (length l))
    at true ws h = omega arith
    at false [] h = omega arith
    at false (w ∷ ws) h = omega arith

pub words_some : (l : List ℕ) → 1 ≤ length (words l)
unfolding words
words_some [] = omega arith
words_some (b ∷ l) = at (eqb b 32) (words l)
  where
    at : (t : Bool) (ws : List (List ℕ)) → 1 ≤ length (if t then [] ∷ ws else on_first b ws)
    at true ws = omega arith
    at false [] = omega arith
    at false (w ∷ ws) = omega arith
