-- What holds of the definitions of specs/Reuse.
use mathlib.Core.Path.{◌≡◌, sym, ◌∙◌, subst}
use Prim.Native.Nat.{ℕ, suc, ◌≤◌}
use native.Mathlib.Omega.{arith}
use Rattle.common.specs.Outcome.{given, Step}
use Rattle.common.proofs.Follow.{given_of}
use Rattle.common.specs.Runs.{Theory, StableResult}
use Rattle.common.proofs.Runs.{StableSpec}
use Rattle.sp_steps.specs.Wf as SpLaws
use Rattle.sp_steps.proofs.Laws as SpLawsProofs
use Rattle.spp_steps.specs.ImageModel.{Stores, has_image}
use Rattle.spp_steps.specs.Wf.{Ext, ValidAt}
use Rattle.spp_steps.proofs.Laws.{spp_theory, at_ext, one_depth, den_mem, den_ext}
use Rattle.spp_steps.specs.Images.{BothWf}
use Rattle.spp_steps.proofs.Images.{BothExt, both_theory}
use Rattle.spp_steps.proofs.HasImage.{has_image_is}
use Rattle.spp_steps.specs.Reuse.{Depth, Kept}

module _ (𝓣 : Theory) (𝓓 : Depth 𝓣) {c : ℕ → Step 𝓣.Store ℕ} where
  open 𝓣 use {Store, Wf, Ext as Later, ext_refl, ext_trans}

  pub kept_ext : {σ τ : Store} {r : ℕ} → Later σ τ → Kept 𝓣 𝓓 c σ r → Kept 𝓣 𝓓 c τ r
  kept_ext {σ} {τ} e k =
      record { below = k.below; depth = 𝓓.later σ τ (suc k.below) e k.depth; again = λ υ x w. k.again υ (ext_trans σ τ υ e x) w }

  -- it is what the step gives now
  pub reuse : {σ : Store} {r : ℕ} (d : ℕ) → Wf σ → 𝓓.Of σ (suc d) → Kept 𝓣 𝓓 c σ r → c d σ ≡ given σ r
  reuse {σ} {r} d w x k =
      let q : suc k.below ≡ suc d = 𝓓.one σ (suc k.below) (suc d) k.depth x in
      let e : k.below ≡ d = omega arith in
      subst (λ (b : ℕ). c b σ ≡ given σ r) e (k.again σ (ext_refl σ) w)

  -- what the step has given may be kept
  pub keep : {σ τ : Store} {r : ℕ} {P : Store → ℕ → Type 0} (d : ℕ) → 𝓓.Of σ (suc d) → StableSpec 𝓣 (c d) P σ → c d σ ≡ given τ r → Kept 𝓣 𝓓 c τ r
  keep {σ} {τ} {r} {P} d x run q =
      let g : StableResult 𝓣 (c d) P σ τ r = given_of run q in
      record { below = d; depth = 𝓓.later σ τ (suc d) g.ext x; again = g.stable }

-- ---- the three depths

abbrev pub of_rel : (N a : ℕ) → Depth (spp_theory N)
of_rel N a = record { Of = λ σ d. ValidAt σ d a; later = λ σ τ d e x. at_ext e d a x; one = λ σ d e x y. one_depth σ d e a x y }

abbrev pub in_rel : (N a : ℕ) → Depth (both_theory N)
in_rel N a = record { Of = λ σ d. ValidAt σ.spp d a; later = λ σ τ d e x. at_ext e.spp_ext d a x; one = λ σ d e x y. one_depth σ.spp d e a x y }

abbrev pub in_set : (N s : ℕ) → Depth (both_theory N)
in_set N s = record {
  Of = λ σ d. SpLaws.ValidAt σ.sp d s;
  later = λ σ τ d e x. SpLawsProofs.at_ext e.sp_ext d s x;
  one = λ σ d e x y. SpLawsProofs.one_depth σ.sp d e s x y;
}

-- ---- has_image

pub has_image_ext : (N d : ℕ) → d ≤ N → (σ τ : Stores) (s r : ℕ) → BothWf N σ → BothWf N τ → BothExt σ τ → SpLaws.ValidAt σ.sp d s → ValidAt σ.spp d r
    → has_image N d s r τ ≡ has_image N d s r σ
has_image_ext N d l σ τ s r w v e x y =
    has_image_is N d l τ s r _ _ v (SpLawsProofs.den_ext e.sp_ext (SpLawsProofs.den_mem x)) (den_ext e.spp_ext (den_mem y))
    ∙ sym (has_image_is N d l σ s r _ _ w (SpLawsProofs.den_mem x) (den_mem y))
