-- Members that are copied into a list: what one turn does, and what the list is then.
use mathlib.Core.Path.{◌≡◌, refl, sym, ◌∙◌, ap, ap₂, subst}
use mathlib.Core.List.{List, [], ◌∷◌, ◌++◌, append-nil}
use Prim.Native.Nat.{ℕ, zero, suc, ◌+◌, ◌-◌, ◌≤◌, ◌<◌}
use native.Mathlib.Omega.{arith}
use lib.ListN.{length, set, length-set, drop, drop_of_length-le}
use lib.Seq.{sets, sets-eq}
use Rattle.aut_steps.specs.Tables.{Limits as Bounds}
use Rattle.aut_steps.specs.Scratch.{Kept}
use Rattle.aut_steps.proofs.Scratch.{kept_sets}
use Rattle.image_steps.specs.Image.{Head}
use Rattle.image_steps.specs.Read.{words_from}
use Rattle.image_words.specs.Clauses.{word_of}
use Rattle.image_states.specs.Clauses.{Holds, Copies}

-- the words of an image are the same for every head and all limits
abbrev pub any_head : Head
any_head = record { fields = 0; budget = 0; sp = 0; spp = 0; members = 0; states = 0; lines = 0 }

-- fewer words
pub holds_less : {image : List ℕ} {n m : ℕ} → Holds image n → m ≤ n → Holds image m
holds_less h l = record { block = λ i k. h.block i (omega arith) }

-- there are fewer words than bytes
pub few_words : (image : List ℕ) (n : ℕ) → Holds image n → n ≤ length image
few_words image zero h = omega arith
few_words image (suc n) h = omega (arith, h.block n (omega arith))

module _ (image : List ℕ) (h : Head) (L : Bounds) where
  pub from_length : (a k : ℕ) → length (words_from image h L a k) ≡ k
  unfolding words_from
  from_length a zero = refl
  from_length a (suc k) = ap suc (from_length (a + 1) k)

  from_on : (a k j : ℕ) → j < k → words_from image h L (a + j) (k - j) ≡ word_of image (a + j) ∷ words_from image h L (a + (j + 1)) (k - (j + 1))
  unfolding words_from
  from_on a k j l =
      ap (words_from image h L (a + j)) {x = k - j} {y = suc (k - (j + 1))} (omega arith)
      ∙ ap (λ (b : ℕ). word_of image (a + j) ∷ words_from image h L b (k - (j + 1))) {x = a + j + 1} {y = a + (j + 1)} (omega arith)

  from_done : (a k j : ℕ) → k ≤ j → words_from image h L a (k - j) ≡ []
  unfolding words_from
  from_done a k j l = ap (words_from image h L a) {x = k - j} {y = 0} (omega arith)

-- ---- copy_members: j words are there

pub record Copying (image : List ℕ) (a : ℕ) (s s' : List ℕ) (j : ℕ) : Type 0 where
  pub len : length s' ≡ length s
  pub is : (h : Head) (L : Bounds) → sets s 0 (words_from image h L a (length s)) ≡ sets s' j (words_from image h L (a + j) (length s - j))

pub copy_begin : (image : List ℕ) (a : ℕ) (s : List ℕ) → Copying image a s s 0
copy_begin image a s = record {
  len = refl;
  is = λ h L. ap₂ (λ (x y : ℕ). sets s 0 (words_from image h L x y)) {x = a} {y = a + 0} {u = length s} {v = length s - 0} (omega arith) (omega arith);
}

pub copy_again : (image : List ℕ) (a : ℕ) (s s' : List ℕ) (j : ℕ) → Copying image a s s' j → j < length s → (x : ℕ) → x ≡ word_of image (a + j) → Copying image a s (set s' j x) (j + 1)
copy_again image a s s' j v l x e = record {
  len = simp length-set v.len;
  is = λ h L.
      v.is h L
      ∙ ap (sets s' j) (from_on image h L a (length s) j l)
      ∙ ap₂ (λ (x c : ℕ). sets (set s' j x) c (words_from image h L (a + (j + 1)) (length s - (j + 1)))) {x = word_of image (a + j)} {y = x} {u = suc j} {v = j + 1} (sym e) (omega arith);
}

pub copy_end : (image : List ℕ) (a : ℕ) (s s' : List ℕ) (j : ℕ) → Copying image a s s' j → length s ≤ j → Copies image a (length s) s'
copy_end image a s s' j v l = record {
  is = λ h L. all h L ∙ v.is h L ∙ ap (sets s' j) (from_done image h L (a + j) (length s) j l);
}
  where
    all : (h : Head) (L : Bounds) → words_from image h L a (length s) ≡ sets s 0 (words_from image h L a (length s))
    all h L =
        let xs : List ℕ = words_from image h L a (length s) in
        let n : length xs ≡ length s = from_length image h L a (length s) in
        sym (sets-eq xs s 0 (omega (arith, n)) ∙ ap (λ (r : List ℕ). xs ++ r) (drop_of_length-le s (omega (arith, n))) ∙ append-nil xs)

-- ---- what is in scratch then, where the list was its first words

pub copied_kept : (ys s : List ℕ) (k : ℕ) → length ys ≡ k → k ≤ 64 → k ≤ length s → Kept 0 64 s (ys ++ drop k s)
copied_kept ys s k n l m =
    subst (Kept 0 64 s) (sets-eq ys s 0 (omega (arith, n)) ∙ ap (λ (i : ℕ). ys ++ drop i s) {x = 0 + length ys} {y = k} (omega (arith, n)))
    (kept_sets ys s 0 64 0 (omega arith) (omega (arith, n)))
