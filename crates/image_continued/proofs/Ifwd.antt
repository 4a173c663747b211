-- `ifwd` goes by the set and not by its number: on two tables of packet nodes, for handles of one set, and the same relation nodes, it makes the same relation nodes and gives the same handle.
use mathlib.Core.Path.{◌≡◌, refl, sym, ◌∙◌, subst}
use mathlib.Core.Bool.{Bool, true, false}
use Prim.Native.Nat.{ℕ, zero, suc, ◌%◌, ◌<◌}
use native.Mathlib.Omega.{arith}
use lib.Dec.{eqb}
use borrow.Author.Tests.{eqb-true, eqb-false}
use Rattle.common.specs.Packets.{end, Set}
use Rattle.common.specs.Outcome.{Outcome, refused, given}
use Rattle.common.specs.Runs.{Table, placed}
use Rattle.sp_steps.specs.Model as Sp
use Rattle.sp_steps.specs.Wf as SpLaws
use Rattle.sp_steps.proofs.Laws as SpLawsProofs
use Rattle.spp_steps.proofs.Laws.{by_test}
use Rattle.spp_steps.specs.Model.{quad, mk}
use Rattle.spp_steps.specs.ImageModel.{Stores, stores, on_spp, ifwd_node, ifwd}
use Rattle.aut_free.proofs.Alike.{AlikeRuns, stops, comes}
use Rattle.aut_free.proofs.Runs.{alike_bind, alike_given}

-- the packet nodes are s and s', the relation nodes the same
pub record Beside (s s' : Table) (σ τ : Stores) : Type 0 where
  pub left : σ.sp ≡ s
  pub right : τ.sp ≡ s'
  pub nodes : σ.spp ≡ τ.spp

module _ {s s' : Table} where
  -- at depth 0 a set is its handle
  low_one : {h h' : ℕ} {X : Set 0} → SpLaws.Denotes s 0 h X → SpLaws.Denotes s' 0 h' X → h ≡ h'
  unfolding Sp.mem
  low_one {h} {h'} x y =
      let e : eqb (h % 2) 1 ≡ eqb (h' % 2) 1 = x.means end ∙ sym (y.means end) in
      by_test (eqb (h % 2) 1)
      (λ q. let a = eqb-true (h % 2) 1 q in let b = eqb-true (h' % 2) 1 (sym e ∙ q) in omega (arith, x.at, y.at))
      (λ q. let a = eqb-false (h % 2) 1 q in let b = eqb-false (h' % 2) 1 (sym e ∙ q) in small h h' x.at y.at a b)
    where
      small : (h h' : ℕ) → h < 2 → h' < 2 → (h % 2 ≡ 1 → ⊥) → (h' % 2 ≡ 1 → ⊥) → h ≡ h'
      small zero zero a b p q = refl
      small zero (suc zero) a b p q = absurd (q refl)
      small zero (suc (suc h')) a b p q = absurd (omega arith)
      small (suc zero) h' a b p q = absurd (p refl)
      small (suc (suc h)) h' a b p q = absurd (omega arith)

  mk_alike : (a b : ℕ) (σ τ : Stores) → Beside s s' σ τ → AlikeRuns (Beside s s') (on_spp (mk (quad a b a b)) σ) (on_spp (mk (quad a b a b)) τ)
  mk_alike a b σ τ r = subst (λ (u : Table). AlikeRuns (Beside s s') (on_spp (mk (quad a b a b)) σ) (placed (λ r σ. stores σ.sp r) τ (mk (quad a b a b) u))) r.nodes (go (mk (quad a b a b) σ.spp))
    where
      go : (o : Outcome Table ℕ) → AlikeRuns (Beside s s') (placed (λ r σ. stores σ.sp r) σ o) (placed (λ r σ. stores σ.sp r) τ o)
      go (refused number) = stops
      go (given u h) = comes (record { left = r.left; right = r.right; nodes = refl })

  pub ifwd_alike : (d : ℕ) {h h' : ℕ} {X : Set d} → SpLaws.Denotes s d h X → SpLaws.Denotes s' d h' X → (σ τ : Stores) → Beside s s' σ τ → AlikeRuns (Beside s s') (ifwd d h σ) (ifwd d h' τ)
  unfolding ifwd ifwd_node
  ifwd_alike zero x y σ τ r = alike_given r (low_one x y)
  ifwd_alike (suc d) {h} {h'} {X} x y σ τ r =
      let rec : (b : Bool) (σ₁ τ₁ : Stores) → Beside s s' σ₁ τ₁ → AlikeRuns (Beside s s') (ifwd d (Sp.child s.words b h) σ₁) (ifwd d (Sp.child s'.words b h') τ₁) =
      λ b. ifwd_alike d (SpLawsProofs.den_child x b) (SpLawsProofs.den_child y b) in
      alike_bind (part rec false σ τ r) (λ σ₁ τ₁ a r₁.
      alike_bind (part rec true σ₁ τ₁ r₁) (λ σ₂ τ₂ b r₂. mk_alike a b σ₂ τ₂ r₂))
    where
      part : ((b : Bool) (σ₁ τ₁ : Stores) → Beside s s' σ₁ τ₁ → AlikeRuns (Beside s s') (ifwd d (Sp.child s.words b h) σ₁) (ifwd d (Sp.child s'.words b h') τ₁))
          → (b : Bool) (σ₁ τ₁ : Stores) → Beside s s' σ₁ τ₁ → AlikeRuns (Beside s s') (ifwd d (Sp.child σ.sp.words b h) σ₁) (ifwd d (Sp.child τ.sp.words b h') τ₁)
      part rec b σ₁ τ₁ r₁ =
          subst (λ (u : Table). AlikeRuns (Beside s s') (ifwd d (Sp.child u.words b h) σ₁) (ifwd d (Sp.child τ.sp.words b h') τ₁)) (sym r.left)
          (subst (λ (u : Table). AlikeRuns (Beside s s') (ifwd d (Sp.child s.words b h) σ₁) (ifwd d (Sp.child u.words b h') τ₁)) (sym r.right) (rec b σ₁ τ₁ r₁))
