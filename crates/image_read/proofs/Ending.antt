-- The last block: spare members, and unused words; and the blocks that the records reach.
use mathlib.Core.Path.{◌≡◌, sym, ◌∙◌, ap}
use mathlib.Core.Bool.{Bool, true, false, ◌&&◌}
use mathlib.Core.List.{List}
use Prim.Native.Nat.{ℕ, zero, ◌*◌, ◌-◌, ◌≤◌}
use native.Mathlib.Omega.{arith}
use borrow.Author.Tests.{eq-eqb, ne_eqb}
use Rattle.image_steps.specs.Image.{reach, total}
use Rattle.image_steps.specs.Read.{unused}
use Rattle.image_steps.proofs.Loops.{HeadFits, head_fits_lem}
use Rattle.image_words.specs.declared.Head.{Head}
use Rattle.image_words.specs.Clauses.{head_of, Reaches}
use Rattle.image_words.proofs.Words.{start_5}
use Rattle.image_read.specs.Clauses.{Fitting, ended_by}

module _ (image : List ℕ) (h : Head) (F : Fitting image h) where
  pub fits : HeadFits image (head_of h)
  fits = head_fits_lem image (head_of h) F.fits

  -- the image has the blocks of all records
  pub reaching : (n : ℕ) → n ≤ total (head_of h) → Reaches image n
  reaching n l = omega (arith, fits.blocks)

  -- the words of all records
  pub total_small : total (head_of h) ≤ 117573632
  total_small = omega (arith, start_5 (head_of h), fits.sp, fits.spp, fits.members, fits.states, fits.lines)

  module _ (members : ℕ) where
    pub ended_spare : (members ≡ h.members → ⊥) → ended_by image (head_of h) members ≡ false
    ended_spare n = ap (λ (b : Bool). b && unused image (reach (total (head_of h))) (total (head_of h) - 127 * (reach (total (head_of h)) - 1)) (127 * reach (total (head_of h)) - total (head_of h))) (ne_eqb members h.members n)

    module _ (e : members ≡ h.members) where
      counted : ended_by image (head_of h) members ≡ unused image (reach (total (head_of h))) (total (head_of h) - 127 * (reach (total (head_of h)) - 1)) (127 * reach (total (head_of h)) - total (head_of h))
      counted = ap (λ (b : Bool). b && unused image (reach (total (head_of h))) (total (head_of h) - 127 * (reach (total (head_of h)) - 1)) (127 * reach (total (head_of h)) - total (head_of h))) (eq-eqb members h.members e)

      pub ended_empty : {n : ℕ} → n ≡ total (head_of h) → n ≡ 0 → ended_by image (head_of h) members ≡ true
      unfolding unused
      ended_empty t z = counted ∙ ap (unused image (reach (total (head_of h))) (total (head_of h) - 127 * (reach (total (head_of h)) - 1))) {x = 127 * reach (total (head_of h)) - total (head_of h)} {y = zero} (omega arith)

      pub ended_words : {n b : ℕ} {r : Bool} → n ≡ total (head_of h) → b ≡ reach n → unused image b (n - 127 * (b - 1)) (127 * b - n) ≡ r → ended_by image (head_of h) members ≡ r
      ended_words {n} t e q = counted ∙ ap (λ (m : ℕ). unused image (reach m) (m - 127 * (reach m - 1)) (127 * reach m - m)) (sym t) ∙ ap (λ (b : ℕ). unused image b (n - 127 * (b - 1)) (127 * b - n)) (sym e) ∙ q
