-- A kept least packet is right in every later store.
use mathlib.Core.Path.{sym, ◌∙◌, ap, ap₂}
use mathlib.Core.Bool.{◌&&◌}
use Prim.Native.Nat.{ℕ}
use Rattle.netkat_paths.proofs.OrderLaws.{least_same}
use Rattle.sp_steps.proofs.Laws as SpFacts
use Rattle.spp_steps.specs.ImageModel.{Stores}
use Rattle.spp_steps.proofs.Laws.{at_ext, mem_ext}
use Rattle.spp_steps.proofs.Images.{BothExt}
use Rattle.spp_least.specs.Clauses.{word_of, led_to, LeastKept}

pub kept_ext : {σ τ : Stores} → BothExt σ τ → {op s r w : ℕ} → LeastKept σ op s r w → LeastKept τ op s r w
kept_ext {σ} {τ} e {op} {s} {r} {w} v = record {
  depth = v.depth;
  at_s = SpFacts.at_ext e.sp_ext v.depth s v.at_s;
  at_r = at_ext e.spp_ext v.depth r v.at_r;
  small = v.small;
  is = λ p f. v.is p f ∙ ap word_of (least_same (led_to σ v.depth s r p) (led_to τ v.depth s r p) (λ h.
      sym (ap₂ ◌&&◌ (mem_ext e.spp_ext v.depth r p h v.at_r) (SpFacts.mem_ext e.sp_ext v.depth s h v.at_s))));
}
