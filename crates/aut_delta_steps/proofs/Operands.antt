-- 01, "Forms that must change": delta and epsilon call themselves on operands, whose nesting is lower.
use Rattle.std.specs.Prelude.{if◌then◌else◌}
use mathlib.Core.Path.{◌≡◌, refl, sym, ◌∙◌, subst}
use mathlib.Core.Bool.{Bool, true, false}
use mathlib.Core.List.{List, [], ◌∷◌}
use Prim.Native.Nat.{ℕ, ◌≤◌, ◌<◌, max}
use native.Mathlib.Omega.{arith}
use lib.Dec.{eqb}
use Rattle.netkat.specs.Rules.{Rule, Rules}
use Rattle.spp_steps.proofs.Laws.{false_true}
use Rattle.aut_steps.specs.Tables.{SPP, UNION, INTERSECT, XOR, DIFFERENCE, COMPLEMENT, SEQUENCE, STAR, DUP, NEXT, UNTIL, TOP, nest, Limits, Aut}
use Rattle.aut_steps.specs.Intern.{nest_l}
use Rattle.aut_steps.specs.Kinds.{Form, one, two, many, nothing, form}
use Rattle.aut_steps.specs.Ascending.{All}
use Rattle.aut_steps.proofs.ListLaws.{all_with}
use Rattle.aut_steps.specs.Wf.{states, kind, first, second, nesting, members, One, Two, Many, Ok, WfAut}
use Rattle.aut_steps.proofs.Wf.{ok_as}

-- y may be called from x
pub record Below (σ : Aut) (x y : ℕ) : Type 0 where
  pub state : y < states σ
  pub earlier : y < x
  pub lower : nesting σ y < nesting σ x

nest_l_from : (st : List ℕ) (h : ℕ) (xs : List ℕ) → h ≤ nest_l st h xs
unfolding nest_l
nest_l_from st h [] = omega arith
nest_l_from st h (x ∷ xs) = omega (arith, nest_l_from st (max h (nest st x)) xs)

nest_l_each : (st : List ℕ) (h : ℕ) (xs : List ℕ) → All (λ y. nest st y ≤ nest_l st h xs) xs
unfolding nest_l
nest_l_each st h [] = tt
nest_l_each st h (x ∷ xs) = (omega (arith, nest_l_from st (max h (nest st x)) xs), nest_l_each st (max h (nest st x)) xs)

module _ {N : ℕ} {L : Limits} {σ : Aut} (g : WfAut N L σ) {x : ℕ} (l : x < states σ) (k : ℕ) (e : kind σ x ≡ k) where
  pub below_one : (c : Rule N → Rule N) → form k ≡ one c → Below σ x (first σ x)
  below_one c q = let o : One σ x = subst (λ (f : Form N). Ok f σ x) q (ok_as g k l e) in record { state = omega (arith, o.earlier); earlier = o.earlier; lower = omega (arith, o.nested) }

  pub below_two : (c : Rule N → Rule N → Rule N) → form k ≡ two c → Below σ x (first σ x) × Below σ x (second σ x)
  below_two c q =
      let o : Two σ x = subst (λ (f : Form N). Ok f σ x) q (ok_as g k l e) in
      (record { state = omega (arith, o.earlier1); earlier = o.earlier1; lower = omega (arith, o.nested) }, record { state = omega (arith, o.earlier2); earlier = o.earlier2; lower = omega (arith, o.nested) })

  pub below_many : (c : Rules N → Rule N) → form k ≡ many c → All (Below σ x) (members σ x)
  below_many c q =
      let o : Many σ x = subst (λ (f : Form N). Ok f σ x) q (ok_as g k l e) in
      all_with (members σ x) (λ y m n. record { state = omega arith; earlier = m; lower = omega (arith, o.nested) }) o.earlier (nest_l_each σ.states.words 0 (members σ x))

-- ---- the kind of a state is one of the twelve

unless : {A : Type 0} (b : Bool) (x y : A) → b ≡ false → (if b then x else y) ≡ y
unless true x y e = absurd (false_true (sym e))
unless false x y e = refl

-- it is this one, if it is no other
pub last_kind : {N : ℕ} {L : Limits} {σ : Aut} → WfAut N L σ → {x : ℕ} → x < states σ → (form {N = N} (kind σ x) ≡ nothing) → ⊥
last_kind {N} {σ = σ} g {x} l e = subst (λ (f : Form N). Ok f σ x) e (g.ok x l)

pub no_kind : {N : ℕ} (k : ℕ) → eqb k SPP ≡ false → eqb k UNION ≡ false → eqb k INTERSECT ≡ false → eqb k XOR ≡ false → eqb k DIFFERENCE ≡ false → eqb k COMPLEMENT ≡ false
    → eqb k SEQUENCE ≡ false → eqb k STAR ≡ false → eqb k DUP ≡ false → eqb k NEXT ≡ false → eqb k UNTIL ≡ false → eqb k TOP ≡ false → form {N = N} k ≡ nothing
unfolding form
no_kind k a b c d e f g h i j m n =
    unless (eqb k SPP) _ _ a ∙ unless (eqb k UNION) _ _ b ∙ unless (eqb k INTERSECT) _ _ c ∙ unless (eqb k XOR) _ _ d ∙ unless (eqb k DIFFERENCE) _ _ e ∙ unless (eqb k COMPLEMENT) _ _ f
    ∙ unless (eqb k SEQUENCE) _ _ g ∙ unless (eqb k STAR) _ _ h ∙ unless (eqb k DUP) _ _ i ∙ unless (eqb k NEXT) _ _ j ∙ unless (eqb k UNTIL) _ _ m ∙ unless (eqb k TOP) _ _ n
