-- One turn of `least`: the empty set, depth 0, or one or two calls.
use Rattle.std.specs.Prelude.{Some, None, Option, is_some, IfSome}
use mathlib.Core.Path.{◌≡◌, refl, sym, ◌∙◌, ap, subst}
use mathlib.Core.Bool.{Bool, true, false}
use Prim.Native.Nat.{ℕ, zero, suc, ◌-◌, ◌^◌, ◌≤◌, ◌<◌}
use native.Mathlib.Omega.{arith}
use native.Mathlib.Nat.{le_refl}
use borrow.Author.Tests.{eqb-true, eqb-false}
use Rattle.common.specs.Packets.{bit}
use Rattle.common.specs.Runs.{Table}
use Rattle.netkat_paths.specs.Order.{value, least}
use Rattle.sp_steps.specs.Model.{child, mem, is_zero}
use Rattle.sp_steps.specs.Wf.{ValidAt}
use Rattle.sp_steps.proofs.Laws.{zero_mem, wf_down}
use Rattle.sp.specs.Clauses.{Kids}
use Rattle.spp_least.specs.Clauses.{number_of, raised, LeastAsked}
use Rattle.spp_least.proofs.Numbers.{below, least_empty, low_least, high_least}

-- where it is not None there is one
pub is_one : (o : Option ℕ) → (o ≡ None → ⊥) → true ≡ is_some o
is_one None f = absurd (f refl)
is_one (Some x) f = refl

-- at depth 0 a set is empty or full
pub low_full : (s : ℕ) → s < 2 → false ≡ is_zero 0 s → s ≡ 1
unfolding is_zero
low_full s l e = omega (arith, eqb-false s 0 (sym e))

module _ {D : ℕ} {σ : Table} {s : ℕ} (q : LeastAsked D σ s) where
  pub empty : true ≡ is_zero D s → None ≡ number_of (least D (mem σ.words D s))
  unfolding is_zero
  empty e =
      sym (ap number_of (least_empty D (mem σ.words D s) (λ p. ap (λ (h : ℕ). mem σ.words D h p) (eqb-true s _ (sym e)) ∙ zero_mem q.wf D (le_refl D) p)))

  flat : (k : ℕ) → k ≡ 0 → ValidAt σ k s → false ≡ is_zero k s → Some 0 ≡ number_of (least k (mem σ.words k s))
  unfolding least mem value
  flat zero z a e = ap (λ (h : ℕ). number_of (least 0 (mem σ.words 0 h))) (sym (low_full s a e))
  flat (suc k) z a e = absurd (omega arith)

  pub full : false ≡ is_zero D s → D ≡ 0 → Some 0 ≡ number_of (least D (mem σ.words D s))
  full e z = flat D z q.at_s e

  module _ (above : D ≡ 0 → ⊥) where
    D-is : D ≡ suc (D - 1)
    D-is = omega (arith, above)

    at_s : ValidAt σ (suc (D - 1)) s
    at_s = subst (λ (k : ℕ). ValidAt σ k s) D-is q.at_s

    module _ {p0 p1 : ℕ} (K : Kids σ.words s p0 p1) where
      asked : (i : Bool) {x t : ℕ} → x ≡ child σ.words i s → D ≡ t → (D - 1 < t) × LeastAsked (D - 1) σ x
      asked i e d = (omega (arith, above), record { deep = omega (arith, q.deep); wf = wf_down q.wf (omega arith); at_s = subst (ValidAt σ (D - 1)) (sym e) (at_s.2 i) })

      pub asked_0 : {t : ℕ} → D ≡ t → (D - 1 < t) × LeastAsked (D - 1) σ p0
      asked_0 = asked false K.left

      pub asked_1 : {t : ℕ} → D ≡ t → (D - 1 < t) × LeastAsked (D - 1) σ p1
      asked_1 = asked true K.right

      side : (i : Bool) {x : ℕ} {w : Option ℕ} → x ≡ child σ.words i s → w ≡ number_of (least (D - 1) (mem σ.words (D - 1) x)) → w ≡ number_of (least (D - 1) (λ p. mem σ.words (suc (D - 1)) s (bit i p)))
      unfolding mem
      side i e f = f ∙ ap (λ (h : ℕ). number_of (least (D - 1) (mem σ.words (D - 1) h))) e

      whole : {w : Option ℕ} → w ≡ number_of (least (suc (D - 1)) (mem σ.words (suc (D - 1)) s)) → w ≡ number_of (least D (mem σ.words D s))
      whole e = e ∙ ap (λ (k : ℕ). number_of (least k (mem σ.words k s))) (sym D-is)

      module _ {low : Option ℕ} (A : low ≡ number_of (least (D - 1) (mem σ.words (D - 1) p0))) where
        pub found : true ≡ is_some low → low ≡ number_of (least D (mem σ.words D s))
        found e = whole (low_least (mem σ.words (suc (D - 1)) s) (side false K.left A) (sym e))

        module _ {high : Option ℕ} (B : high ≡ number_of (least (D - 1) (mem σ.words (D - 1) p1))) where
          pub small : (1 ≤ D) × (D ≤ 31) × IfSome high (λ k. k < 2 ^ (D - 1))
          small = (omega (arith, above), q.deep, below (least (D - 1) (mem σ.words (D - 1) p1)) B (le_refl (2 ^ (D - 1))))

          pub next : {w : Option ℕ} → false ≡ is_some low → w ≡ raised (2 ^ (D - 1)) high → w ≡ number_of (least D (mem σ.words D s))
          next e w-is = w-is ∙ whole (high_least (mem σ.words (suc (D - 1)) s) (side false K.left A) (sym e) (side true K.right B))
