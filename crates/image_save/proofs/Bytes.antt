-- 02 (ii): "blocks of 512 bytes: block number from 0 (2 bytes), 127 words, then 2 bytes of check": blocks as bytes, written one behind the other.
use mathlib.Core.Path.{◌≡◌, refl, sym, ◌∙◌, ap}
use mathlib.Core.List.{List, [], ◌∷◌, ◌++◌, append_assoc, append-nil}
use Prim.Native.Nat.{ℕ, zero, suc, ◌+◌, ◌*◌, ◌≤◌, ◌<◌}
use native.Mathlib.Omega.{arith}
use lib.ListN.{length, set, take, drop, length-append}
use lib.Seq.{sets, sets-eq, length-sets, length-take-le, drop_at, take_at}
use Rattle.image_form.specs.Form.{half, wide, wides, front, front_at, block, blocks, check}

-- ---- sets of what is written in parts

pub sets_append : (s : List ℕ) (i : ℕ) (xs ys : List ℕ) → sets s i (xs ++ ys) ≡ sets (sets s i xs) (i + length xs) ys
sets_append s i [] ys = ap (λ (j : ℕ). sets s j ys) {x = i} {y = i + 0} (omega arith)
sets_append s i (x ∷ xs) ys = sets_append (set s i x) (suc i) xs ys ∙ ap (λ (j : ℕ). sets (sets (set s i x) (suc i) xs) j ys) {x = suc i + length xs} {y = i + suc (length xs)} (omega arith)

-- what was written is read
pub sets_read : (s : List ℕ) (i : ℕ) (xs : List ℕ) → i + length xs ≤ length s → take (length xs) (drop i (sets s i xs)) ≡ xs
sets_read s i xs l =
    ap (λ (z : List ℕ). take (length xs) (drop i z)) (sets-eq xs s i l ∙ append_assoc (take i s) xs (drop (i + length xs) s))
    ∙ ap (take (length xs)) (drop_at (take i s) (xs ++ drop (i + length xs) s) i (length-take-le i s (omega arith)))
    ∙ take_at xs (drop (i + length xs) s) (length xs) refl

-- ---- words, fronts and blocks

pub wides_length : (w : ℕ → ℕ) (j k : ℕ) → length (wides w j k) ≡ 4 * k
unfolding wides
wides_length w j zero = refl
wides_length w j (suc k) = omega (arith, wides_length w (j + 1) k)

wides_more : (w : ℕ → ℕ) (j k : ℕ) → wides w j (suc k) ≡ wides w j k ++ wide (w (j + k))
unfolding wides
wides_more w j zero = ap (λ (i : ℕ). wide (w i)) {x = j} {y = j + 0} (omega arith)
wides_more w j (suc k) =
    ap (λ (r : List ℕ). wide (w j) ++ r) (wides_more w (j + 1) k ∙ ap (λ (i : ℕ). wides w (j + 1) k ++ wide (w i)) {x = j + 1 + k} {y = j + suc k} (omega arith))

pub wides_last : (w : ℕ → ℕ) (j k : ℕ) → wides w j (k + 1) ≡ wides w j k ++ wide (w (j + k))
wides_last w j k = ap (wides w j) {x = k + 1} {y = suc k} (omega arith) ∙ wides_more w j k

pub front_length : (b : ℕ) (w : ℕ → ℕ) → length (front b w) ≡ 510
front_length b w = omega (arith, wides_length w 0 127)

pub block_length : (b : ℕ) (w : ℕ → ℕ) → length (block b w) ≡ 512
unfolding block
block_length b w = omega (arith, length-append (front b w) (half (check (front b w))), front_length b w)

pub blocks_length : (w : ℕ → ℕ → ℕ) (b n : ℕ) → length (blocks w b n) ≡ 512 * n
unfolding blocks
blocks_length w b zero = refl
blocks_length w b (suc n) = omega (arith, length-append (block b (w b)) (blocks w (b + 1) n), block_length b (w b), blocks_length w (b + 1) n)

blocks_more : (w : ℕ → ℕ → ℕ) (b n : ℕ) → blocks w b (suc n) ≡ blocks w b n ++ block (b + n) (w (b + n))
unfolding blocks
blocks_more w b zero = append-nil (block b (w b)) ∙ ap (λ (i : ℕ). block i (w i)) {x = b} {y = b + 0} (omega arith)
blocks_more w b (suc n) =
    ap (λ (r : List ℕ). block b (w b) ++ r)
    (blocks_more w (b + 1) n ∙ ap (λ (i : ℕ). blocks w (b + 1) n ++ block i (w i)) {x = b + 1 + n} {y = b + suc n} (omega arith))
    ∙ sym (append_assoc (block b (w b)) (blocks w (b + 1) n) (block (b + suc n) (w (b + suc n))))

-- ---- the loop over the words of a block: j of them are written

pub record Worded (w : ℕ → ℕ) (s₀ : List ℕ) (at : ℕ) (s : List ℕ) (j : ℕ) : Type 0 where
  pub is : s ≡ sets s₀ at (wides w 0 j)
  pub len : length s ≡ length s₀

module _ (w : ℕ → ℕ) (s₀ : List ℕ) (at : ℕ) where
  pub words_begin : Worded w s₀ at s₀ 0
  unfolding wides
  words_begin = record { is = refl; len = refl }

  pub words_again : (s : List ℕ) (j v : ℕ) (s' : List ℕ) → Worded w s₀ at s j → j < 127 → v ≡ w j → s' ≡ sets s (at + 4 * j) (wide v) → Worded w s₀ at s' (j + 1)
  words_again s j v s' i l e f = record {
    is = f
        ∙ ap (λ (x : ℕ). sets s (at + 4 * j) (wide x)) {x = v} {y = w (0 + j)} (e ∙ ap w {x = j} {y = 0 + j} (omega arith))
        ∙ ap (λ (t : List ℕ). sets t (at + 4 * j) (wide (w (0 + j)))) i.is
        ∙ ap (λ (a : ℕ). sets (sets s₀ at (wides w 0 j)) a (wide (w (0 + j)))) {x = at + 4 * j} {y = at + length (wides w 0 j)} (omega (arith, wides_length w 0 j))
        ∙ sym (sets_append s₀ at (wides w 0 j) (wide (w (0 + j))))
        ∙ ap (sets s₀ at) (sym (wides_last w 0 j));
    len = ap length f ∙ length-sets s (at + 4 * j) (wide v) ∙ i.len;
  }

  pub words_end : (s : List ℕ) (j : ℕ) → Worded w s₀ at s j → j ≡ 127 → s ≡ sets s₀ at (wides w 0 127)
  words_end s j i l = i.is ∙ ap (λ (k : ℕ). sets s₀ at (wides w 0 k)) {x = j} {y = 127} l

-- ---- a block: its number, its words, its check

module _ (w : ℕ → ℕ) (b : ℕ) (s₀ s₁ s₂ s₃ : List ℕ) (room : 512 * b + 512 ≤ length s₀)
    (first : s₁ ≡ sets s₀ (512 * b) (half b)) (then : s₂ ≡ sets s₁ (512 * b + 2) (wides w 0 127))
    (last : s₃ ≡ sets s₂ (512 * b + 510) (half (check (front_at s₂ b)))) where
  front_is : s₂ ≡ sets s₀ (512 * b) (front b w)
  front_is = then ∙ ap (λ (t : List ℕ). sets t (512 * b + 2) (wides w 0 127)) first ∙ sym (sets_append s₀ (512 * b) (half b) (wides w 0 127))

  front_read : front_at s₂ b ≡ front b w
  front_read =
      ap (λ (t : List ℕ). front_at t b) front_is
      ∙ ap (λ (n : ℕ). take n (drop (512 * b) (sets s₀ (512 * b) (front b w)))) {x = 510} {y = length (front b w)} (sym (front_length b w))
      ∙ sets_read s₀ (512 * b) (front b w) (omega (arith, front_length b w))

  pub block_is : s₃ ≡ sets s₀ (512 * b) (block b w)
  unfolding block
  block_is =
      last
      ∙ ap (λ (f : List ℕ). sets s₂ (512 * b + 510) (half (check f))) front_read
      ∙ ap (λ (t : List ℕ). sets t (512 * b + 510) (half (check (front b w)))) front_is
      ∙ ap (λ (a : ℕ). sets (sets s₀ (512 * b) (front b w)) a (half (check (front b w)))) {x = 512 * b + 510} {y = 512 * b + length (front b w)} (omega (arith, front_length b w))
      ∙ sym (sets_append s₀ (512 * b) (front b w) (half (check (front b w))))

-- ---- the loop over the blocks: b of n are written

pub record Blocked (w : ℕ → ℕ → ℕ) (n : ℕ) (s₀ s : List ℕ) (b : ℕ) : Type 0 where
  pub is : s ≡ sets s₀ 0 (blocks w 0 b)
  pub len : length s ≡ length s₀

module _ (w : ℕ → ℕ → ℕ) (n : ℕ) (s₀ : List ℕ) where
  pub blocks_begin : Blocked w n s₀ s₀ 0
  unfolding blocks
  blocks_begin = record { is = refl; len = refl }

  pub blocks_again : (s : List ℕ) (b : ℕ) (s' : List ℕ) → Blocked w n s₀ s b → b < n → s' ≡ sets s (512 * b) (block b (w b)) → Blocked w n s₀ s' (b + 1)
  blocks_again s b s' i l f = record {
    is = f
        ∙ ap (λ (k : ℕ). sets s (512 * b) (block k (w k))) {x = b} {y = 0 + b} (omega arith)
        ∙ ap (λ (t : List ℕ). sets t (512 * b) (block (0 + b) (w (0 + b)))) i.is
        ∙ ap (λ (a : ℕ). sets (sets s₀ 0 (blocks w 0 b)) a (block (0 + b) (w (0 + b)))) {x = 512 * b} {y = 0 + length (blocks w 0 b)} (omega (arith, blocks_length w 0 b))
        ∙ sym (sets_append s₀ 0 (blocks w 0 b) (block (0 + b) (w (0 + b))))
        ∙ ap (sets s₀ 0) (sym (blocks_more w 0 b))
        ∙ ap (λ (k : ℕ). sets s₀ 0 (blocks w 0 k)) {x = suc b} {y = b + 1} (omega arith);
    len = ap length f ∙ length-sets s (512 * b) (block b (w b)) ∙ i.len;
  }

  pub blocks_end : (s : List ℕ) (b : ℕ) → Blocked w n s₀ s b → b ≡ n → s ≡ sets s₀ 0 (blocks w 0 n)
  blocks_end s b i l = i.is ∙ ap (λ (k : ℕ). sets s₀ 0 (blocks w 0 k)) {x = b} {y = n} l
