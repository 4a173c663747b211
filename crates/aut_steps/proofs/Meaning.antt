-- What holds of the definitions of specs/Meaning.
use mathlib.Core.Path.{◌≡◌, refl, sym, ◌∙◌, ap, ap₂, subst, fun_ext}
use mathlib.Core.List.{List, [], ◌∷◌}
use Prim.Native.Nat.{ℕ, zero, suc, ◌<◌}
use native.Mathlib.Omega.{arith}
use Rattle.netkat.specs.Rules.{Rule, Language, Join, Star, Until, Next, In, InSome, InEach, relation, dup, also}
use Rattle.spp_steps.proofs.Laws.{mem_ext}
use Rattle.aut_steps.specs.Relations.{pairs}
use Rattle.aut_steps.specs.Tables.{SPP, UNION, INTERSECT, XOR, DIFFERENCE, COMPLEMENT, SEQUENCE, STAR, DUP, NEXT, UNTIL, TOP, Limits, Aut}
use Rattle.aut_steps.specs.Kinds.{Form, leaf, constant, one, two, many, nothing, form}
use Rattle.aut_steps.specs.Ascending.{All}
use Rattle.aut_steps.proofs.ListLaws.{Some, all_map}
use Rattle.aut_steps.specs.Languages.{◌≈◌}
use Rattle.aut_steps.proofs.Languages.{◌then◌, Rel, Whole, Differ, Minus, Not, either_same, both_same}
use Rattle.aut_steps.specs.Wf.{states, kind, first, second, members, ExtAut, Ok, WfAut}
use Rattle.aut_steps.proofs.Wf.{grown_refl, kind_grown, first_grown, second_grown, members_grown}
use Rattle.aut_steps.specs.Meaning.{rules_of, shape, rule_below, rule, Holds}

module _ (N : ℕ) where
  abbrev pub HoldsSome : Aut → List ℕ → Language N
  HoldsSome σ xs w = Some (λ x. Holds N σ x w) xs

  abbrev pub HoldsAll : Aut → List ℕ → Language N
  HoldsAll σ xs w = All (λ x. Holds N σ x w) xs

  -- state z holds exactly the strings of A
  pub record Is (A : Language N) (τ : Aut) (z : ℕ) : Type 0 where
    pub state : z < states τ
    pub strings : Holds N τ z ≈ A

module _ {N : ℕ} where
  pub is_same : {A B : Language N} {τ : Aut} {z : ℕ} → A ≈ B → Is N A τ z → Is N B τ z
  is_same e i = record { state = i.state; strings = i.strings then e }

  -- equal rules hold the same strings
  pub in_same : {r s : Rule N} → r ≡ s → In r ≈ In s
  in_same e w = (subst (λ (r : Rule N). In r w) e, subst (λ (r : Rule N). In r w) (sym e))

  rules_same : (r s : ℕ → Rule N) (xs : List ℕ) → All (λ x. r x ≡ s x) xs → rules_of r xs ≡ rules_of s xs
  unfolding rules_of
  rules_same r s [] a = refl
  rules_same r s (x ∷ xs) a = ap₂ also a.0 (rules_same r s xs a.1)

  shape_same : {σ τ : Aut} → ExtAut σ τ → (f : Form N) (r s : ℕ → Rule N) (x : ℕ) → x < states σ → Ok f σ x → ((y : ℕ) → y < x → s y ≡ r y) → shape f τ s x ≡ shape f σ r x
  shape_same {σ} {τ} g leaf r s x l o e =
      ap relation (ap (pairs N τ.nodes) (first_grown g x l) ∙ fun_ext (λ p. fun_ext (λ q. mem_ext g.nodes N (first σ x) p q o.handle)))
  shape_same g (constant c) r s x l o e = refl
  shape_same {σ} g (one c) r s x l o e = ap c (ap s (first_grown g x l) ∙ e (first σ x) o.earlier)
  shape_same {σ} g (two c) r s x l o e =
      ap₂ c (ap s (first_grown g x l) ∙ e (first σ x) o.earlier1) (ap s (second_grown g x l) ∙ e (second σ x) o.earlier2)
  shape_same {σ} {τ} g (many c) r s x l o e =
      ap c (ap (rules_of s) (members_grown g x l o.inside) ∙ rules_same s r (members σ x) (all_map (members σ x) e o.earlier))
  shape_same g nothing r s x l o e = refl

  module _ {L : Limits} {σ : Aut} (G : WfAut N L σ) where
    below_same : {τ : Aut} → ExtAut σ τ → (f h x : ℕ) → x < f → x < h → x < states σ → rule_below N τ f x ≡ rule_below N σ h x
    unfolding rule_below
    below_same g zero h x a b l = absurd (omega arith)
    below_same g (suc f) zero x a b l = absurd (omega arith)
    below_same {τ} g (suc f) (suc h) x a b l =
        ap (λ (k : ℕ). shape (form k) τ (rule_below N τ f) x) (kind_grown g x l)
        ∙ shape_same g (form (kind σ x)) (rule_below N σ h) (rule_below N τ f) x l (G.ok x l) (λ y m. below_same g f h y (omega arith) (omega arith) (omega arith))

    -- a later table has the same rule
    pub rule_grown : {τ : Aut} → ExtAut σ τ → {x : ℕ} → x < states σ → rule N τ x ≡ rule N σ x
    unfolding rule
    rule_grown g {x} l = below_same g (suc x) (suc x) x (omega arith) (omega arith) l

    pub holds_grown : {τ : Aut} → ExtAut σ τ → {x : ℕ} → x < states σ → Holds N τ x ≈ Holds N σ x
    holds_grown g l = in_same (rule_grown g l)

    -- a state's rule, from its operands' rules
    pub rule_is : (k x : ℕ) → x < states σ → kind σ x ≡ k → rule N σ x ≡ shape (form k) σ (rule N σ) x
    unfolding rule rule_below
    rule_is k x l e =
        shape_same (grown_refl σ) (form (kind σ x)) (rule N σ) (rule_below N σ x) x l (G.ok x l)
        (λ y m. below_same (grown_refl σ) x (suc y) y m (omega arith) (omega arith))
        ∙ ap (λ (j : ℕ). shape (form j) σ (rule N σ) x) e

  in_some : (r : ℕ → Rule N) (xs : List ℕ) → InSome (rules_of r xs) ≈ (λ w. Some (λ x. In (r x) w) xs)
  unfolding In rules_of
  in_some r [] = λ w. (λ a. a, λ a. a)
  in_some r (x ∷ xs) = either_same (λ w. (λ a. a, λ a. a)) (in_some r xs)

  in_each : (r : ℕ → Rule N) (xs : List ℕ) → InEach (rules_of r xs) ≈ (λ w. All (λ x. In (r x) w) xs)
  unfolding In rules_of
  in_each r [] = λ w. (λ a. a, λ a. a)
  in_each r (x ∷ xs) = both_same (λ w. (λ a. a, λ a. a)) (in_each r xs)

  -- what a state of each kind holds, from its operands
  module _ {L : Limits} {σ : Aut} (G : WfAut N L σ) {x : ℕ} (l : x < states σ) where
    pub holds_spp : kind σ x ≡ SPP → Holds N σ x ≈ Rel (pairs N σ.nodes (first σ x))
    unfolding form In
    holds_spp e = in_same (rule_is G SPP x l e)

    pub holds_union : kind σ x ≡ UNION → Holds N σ x ≈ HoldsSome N σ (members σ x)
    unfolding form In
    holds_union e = in_same (rule_is G UNION x l e) then in_some (rule N σ) (members σ x)

    pub holds_intersect : kind σ x ≡ INTERSECT → Holds N σ x ≈ HoldsAll N σ (members σ x)
    unfolding form In
    holds_intersect e = in_same (rule_is G INTERSECT x l e) then in_each (rule N σ) (members σ x)

    pub holds_xor : kind σ x ≡ XOR → Holds N σ x ≈ Differ (Holds N σ (first σ x)) (Holds N σ (second σ x))
    unfolding form In
    holds_xor e = in_same (rule_is G XOR x l e)

    pub holds_difference : kind σ x ≡ DIFFERENCE → Holds N σ x ≈ Minus (Holds N σ (first σ x)) (Holds N σ (second σ x))
    unfolding form In
    holds_difference e = in_same (rule_is G DIFFERENCE x l e)

    pub holds_complement : kind σ x ≡ COMPLEMENT → Holds N σ x ≈ Not (Holds N σ (first σ x))
    unfolding form In
    holds_complement e = in_same (rule_is G COMPLEMENT x l e)

    pub holds_sequence : kind σ x ≡ SEQUENCE → Holds N σ x ≈ Join (Holds N σ (first σ x)) (Holds N σ (second σ x))
    unfolding form In
    holds_sequence e = in_same (rule_is G SEQUENCE x l e)

    pub holds_star : kind σ x ≡ STAR → Holds N σ x ≈ Star (Holds N σ (first σ x))
    unfolding form In
    holds_star e = in_same (rule_is G STAR x l e)

    pub holds_dup : kind σ x ≡ DUP → Holds N σ x ≈ In dup
    unfolding form
    holds_dup e = in_same (rule_is G DUP x l e)

    pub holds_next : kind σ x ≡ NEXT → Holds N σ x ≈ Next (Holds N σ (first σ x))
    unfolding form In
    holds_next e = in_same (rule_is G NEXT x l e)

    pub holds_until : kind σ x ≡ UNTIL → Holds N σ x ≈ Until (Holds N σ (first σ x)) (Holds N σ (second σ x))
    unfolding form In
    holds_until e = in_same (rule_is G UNTIL x l e)

    pub holds_top : kind σ x ≡ TOP → Holds N σ x ≈ Whole
    unfolding form In
    holds_top e = in_same (rule_is G TOP x l e)
