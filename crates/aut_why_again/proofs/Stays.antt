-- Where no target's set changed in the last round, the state's set stays in the next: a turn reads the sets of targets alone.
use mathlib.Core.Path.{◌≡◌, refl, sym, ◌∙◌, ap}
use mathlib.Core.Logic.{⊎_elim}
use mathlib.Core.Bool.{Bool, true, false, ◌||◌}
use mathlib.Core.List.Memᴰ
use mathlib.Core.List.{List, [], ◌∷◌, Memᴰ}
use Prim.Native.Nat.{ℕ, zero, suc, ◌+◌, ◌*◌, ◌-◌, ◌<◌}
use native.Mathlib.Omega.{arith}
use lib.Dec.{ltb}
use lib.ListN.{length, get_or}
use borrow.Author.Tests.{ltb-false}
use Rattle.common.specs.Packets.{any}
use Rattle.common.specs.Outcome.{Outcome, given, ◌>>=◌, after}
use Rattle.common.proofs.Follow.{given_same}
use Rattle.netkat_steps.specs.ListSteps.{Edge}
use Rattle.aut_delta_steps.specs.Delta.{list_at}
use Rattle.aut_query_steps.specs.Tables.{Tables}
use Rattle.aut_why_steps.specs.Why.{Sets, ends, joins, turn, round_at, Again}
use Rattle.aut_why_steps.proofs.Turns.{turn_alike}
use Rattle.aut_why_marks.specs.Clauses.{changed_by}

-- ---- no target's word 11 is set

either : (a b : Bool) → (a || b) ≡ false → (a ≡ false) × (b ≡ false)
either true b q = absurd (let z : ◌≡◌ {A = ℕ} 0 1 = cc in omega arith)
either false b q = (refl, q)

any_false : (f : Edge → Bool) (es : List Edge) → any f es ≡ false → (e : Edge) → Memᴰ e es → f e ≡ false
any_false f [] q e m = absurd (Memᴰ.not-nil m)
any_false f (d ∷ es) q e m = ⊎_elim (λ p. ap f p ∙ (either (f d) (any f es) q).0) (λ k. any_false f es (either (f d) (any f es) q).1 e k) (Memᴰ.cases_cons m)

pub unchanged : (st : List ℕ) (es : List Edge) → changed_by st es ≡ false → (e : Edge) → Memᴰ e es → get_or st (12 * e.target + 11) 0 ≡ 0
unchanged st es q e m = omega (arith, ltb-false 0 (get_or st (12 * e.target + 11) 0) (any_false (λ e. ltb 0 (get_or st (12 * e.target + 11) 0)) es q e m))

-- ---- the set stays

-- a state without transitions has its ends
turn_none : (N : ℕ) (before : Sets) (s : ℕ) (τ : Tables) (u : ℕ) → list_at τ.base s ≡ [] → ends N s τ ≡ given τ u → turn N before s τ ≡ given τ u
unfolding turn joins
turn_none N before s τ u q e = ap (λ (es : List Edge). (ends N s >>= joins N es before) τ) q ∙ ap (λ (o : Outcome Tables ℕ). after o (joins N [] before)) e

empty : (es : List Edge) → ((e : Edge) → Memᴰ e es → ⊥) → es ≡ []
empty [] f = refl
empty (e ∷ es) f = absurd (f e (Memᴰ.head refl))

module _ {N : ℕ} {ss : List ℕ} {τ : Tables} {ws : List Sets} (A : Again N ss τ ws) where
  pub round_stays : (k s : ℕ) → Memᴰ s ss → k + 1 < length ws
      → ((e : Edge) → Memᴰ e (list_at τ.base s) → (0 < k) × (round_at N ws (k - 1) e.target ≡ round_at N ws k e.target)) → round_at N ws k s ≡ round_at N ws (k + 1) s
  round_stays zero s m l f =
      given_same (sym (turn_none N (round_at N ws 0) s τ (round_at N ws 0 s) (empty (list_at τ.base s) (λ e n. omega (arith, (f e n).0))) (A.first s m)) ∙ A.next 0 (omega arith) s m)
  round_stays (suc k) s m l f =
      given_same (sym (A.next k (omega arith) s m) ∙ turn_alike N (round_at N ws k) (round_at N ws (suc k)) s τ (λ e n. before e.target (f e n).1) ∙ A.next (suc k) (omega arith) s m)
      ∙ ap (λ (j : ℕ). round_at N ws j s) {x = suc (suc k)} {y = suc k + 1} (omega arith)
    where
      before : (t : ℕ) → round_at N ws (suc k - 1) t ≡ round_at N ws (suc k) t → round_at N ws k t ≡ round_at N ws (suc k) t
      before t q = ap (λ (j : ℕ). round_at N ws j t) {x = k} {y = suc k - 1} (omega arith) ∙ q
