-- Two words of a table zeroed at once, as one by one.
use mathlib.Core.Path.{◌≡◌, refl, ap, ◌∙◌}
use mathlib.Core.List.{List, [], ◌∷◌}
use Prim.Native.Nat.{ℕ, zero, suc, ◌+◌, ◌<◌}
use native.Mathlib.Omega.{arith}
use lib.ListN.{length, set, drop, replicate}
use borrow.Rule.Slice.PartMut.{put_mid, mid_of}
use Rattle.std.proofs.lemmas.List.{length-take-le, length-drop}

both : (a : ℕ) (p : List ℕ) → a + 1 < length p → put_mid a 2 p (0 ∷ 0 ∷ []) ≡ set (set p a 0) (suc a) 0
both zero [] l = absurd (omega arith)
both zero (x ∷ []) l = absurd (omega arith)
both zero (x ∷ y ∷ p) l = refl
both (suc a) [] l = absurd (omega arith)
both (suc a) (x ∷ p) l = ap (λ (q : List ℕ). x ∷ q) (both a p (omega arith))

pub zeroed : (p : List ℕ) {ys : List ℕ} (a : ℕ) {n : ℕ} → n ≡ 2 → a + 1 < length p → ys ≡ replicate (length (mid_of a n p)) 0 → put_mid a n p ys ≡ set (set p a 0) (a + 1) 0
zeroed p {ys} a {n} q l e = ap (λ (k : ℕ). put_mid a k p ys) q ∙ ap (λ (z : List ℕ). put_mid a 2 p z) (e ∙ ap (λ (k : ℕ). replicate k 0) two) ∙ both a p l ∙ ap (λ (i : ℕ). set (set p a 0) i 0) {x = suc a} {y = a + 1} (omega arith)
  where
    two : length (mid_of a n p) ≡ 2
    two = ap (λ (k : ℕ). length (mid_of a k p)) q ∙ length-take-le 2 (drop a p) (omega (arith, length-drop a p, l))
