-- The full set leaves out no packet.
use Rattle.std.specs.Prelude.{Option}
use mathlib.Core.Path.{◌≡◌, refl, sym, ◌∙◌, ap, subst}
use mathlib.Core.Bool.{Bool, true, false, ◌&&◌}
use mathlib.Core.List.{List}
use Prim.Native.Nat.{ℕ}
use native.Mathlib.Omega.{arith}
use Rattle.netkat_paths.proofs.OrderLaws.{least_same}
use Rattle.sp_steps.specs.Model as Sp
use Rattle.sp_steps.specs.Wf as SpLaws
use Rattle.sp_steps.proofs.Laws.{den_one}
use Rattle.spp_steps.specs.Model as Spp
use Rattle.spp_steps.specs.ImageModel.{Stores}
use Rattle.spp_least.specs.Clauses.{number_of, led_to}
use Rattle.aut_why_least.specs.Clauses.{PreEnd, PreLed, PostLed, PostEnd}

and_yes : (b : Bool) → b && true ≡ b
and_yes true = refl
and_yes false = refl

module _ {N : ℕ} {σ : Stores} {s : List ℕ} {k r : ℕ} (q : PreEnd N σ s k r) {a : ℕ} (a-is : a ≡ Sp.one_at N) where
  full : SpLaws.Denotes σ.sp N a (λ p. true)
  full = subst (λ (h : ℕ). SpLaws.Denotes σ.sp N h (λ p. true)) (sym a-is) (den_one q.wf.sp_wf N (omega arith))

  pub asked : PreLed N σ s k a r
  asked = record { end = q; at_a = full.at }

  pub answered : {w : Option ℕ} {s' : List ℕ} → PostLed N σ k a r w s s' → PostEnd N σ k r w s s'
  answered v = record {
    is = λ p e. v.is p e ∙ ap number_of (least_same (led_to σ N a r p) (λ z. Spp.mem σ.spp.words N r p z) (λ h. ap (λ (b : Bool). Spp.mem σ.spp.words N r p h && b) (full.means h) ∙ and_yes (Spp.mem σ.spp.words N r p h)));
    left = v.left;
  }
