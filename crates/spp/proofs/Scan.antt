-- The search for a node: what the code finds at a node, and where it may begin.
use mathlib.Core.Path.{◌≡◌, refl, ◌∙◌, ap, ap₂, fun_ext}
use mathlib.Core.Bool.{Bool, true, false, ◌&&◌}
use mathlib.Core.List.{List}
use mathlib.Core.Logic.{◌⊎◌, ⊎_elim}
use Prim.Native.Nat.{ℕ, zero, suc, ◌+◌, ◌-◌, ◌*◌, ◌<◌, ◌≤◌, max}
use native.Mathlib.Omega.{arith}
use Rattle.std.proofs.Math.Nat.{max-eq_left, max-eq_right}
use Rattle.std.proofs.lemmas.Bool.{cases_lt}
use lib.Dec.{eqb}
use lib.ListN.{get_or}
use Rattle.spp_steps.specs.Model.{Quad, quad, seek, same, kid}
use Rattle.spp_steps.specs.Wf.{Rising}
use Rattle.spp_steps.proofs.Laws.{by_test}
use Rattle.spp_steps.proofs.Make.{same_kids, seek_yes, seek_no, seek_none}
use Rattle.std.specs.Prelude.{Option, Some, None, MatchOption}
use Rattle.slices.proofs.Records.{Test, Placed, Whole}
use Rattle.spp.specs.Clauses.{First}

quad_is : (X : Quad) → quad (X false false) (X false true) (X true false) (X true true) ≡ X
quad_is X = fun_ext (λ i. fun_ext (λ j. go i j))
  where
    go : (i j : Bool) → quad (X false false) (X false true) (X true false) (X true true) i j ≡ X i j
    go false false = refl
    go false true = refl
    go true false = refl
    go true true = refl

pub kid_is : (t : List ℕ) (i : ℕ) → quad (get_or t (4 * i) 0) (get_or t (4 * i + 1) 0) (get_or t (4 * i + 2) 0) (get_or t (4 * i + 3) 0) ≡ kid t i
unfolding kid
kid_is t i = quad_is (kid t i)

-- ---- a node at a place with the children X

abbrev pub here : Quad → List ℕ → ℕ → Bool
here X t a =
    (eqb (get_or t a 0) (X false false) && eqb (get_or t (a + 1) 0) (X false true))
    && (eqb (get_or t (a + 2) 0) (X true false) && eqb (get_or t (a + 3) 0) (X true true))

pub here_moved : (X : Quad) → Test 4 (here X)
here_moved X s t a b e =
    let w : get_or s a 0 ≡ get_or t b 0 = ap (λ (i : ℕ). get_or s i 0) {x = a} {y = a + 0} (omega arith) ∙ e 0 (omega arith) ∙ ap (λ (i : ℕ). get_or t i 0) {x = b + 0} {y = b} (omega arith) in
    ap₂ ◌&&◌ (ap₂ (λ (v w : ℕ). eqb v (X false false) && eqb w (X false true)) w (e 1 (omega arith)))
    (ap₂ (λ (v w : ℕ). eqb v (X true false) && eqb w (X true true)) (e 2 (omega arith)) (e 3 (omega arith)))

here_same : (X : Quad) (t : List ℕ) (i : ℕ) → same t X i ≡ here X t (4 * i)
unfolding same kid
here_same X t i = refl

pub whole : {from count len : ℕ} → len + 4 * from ≡ 4 * count → Whole 4 from count len
whole e = record { as_many = omega arith; inside = λ i l. omega arith; ends = λ j l. omega arith; place = λ j. omega arith }

left_of_lem : (n i : ℕ) → i < n → n - i ≡ suc (n - (i + 1))
left_of_lem n i l = omega arith

scan_hit : (t : List ℕ) (X : Quad) (n i : ℕ) → i < n → same t X i ≡ true → seek t X i (n - i) ≡ i
scan_hit t X n i l e = ap (seek t X i) (left_of_lem n i l) ∙ seek_yes t X i (n - (i + 1)) e

scan_skip : (t : List ℕ) (X : Quad) (n i : ℕ) → i < n → same t X i ≡ false → seek t X i (n - i) ≡ seek t X (i + 1) (n - (i + 1))
scan_skip t X n i l e = ap (seek t X i) (left_of_lem n i l) ∙ seek_no t X i (n - (i + 1)) e ∙ ap (λ (k : ℕ). seek t X k (n - (i + 1))) (omega arith)

scan_end : (t : List ℕ) (X : Quad) (n : ℕ) → seek t X n (n - n) ≡ n
scan_end t X n = ap (seek t X n) {y = 0} (omega arith) ∙ seek_none t X n

-- ---- the first node that can have the children X

larger : (m n : ℕ) → (max m n ≡ m) ⊎ (max m n ≡ n)
larger m n = ⊎_elim (λ l. ◌⊎◌.inr (max-eq_right (omega arith))) (λ l. ◌⊎◌.inl (max-eq_left l)) (cases_lt m n)

module _ (X : Quad) {a b h : ℕ} (p : a ≡ max (X false false) (X false true)) (q : b ≡ max (X true false) (X true true)) (s : h ≡ max a b) where
  high : (i : Bool) × (j : Bool) × (h ≡ X i j)
  high = ⊎_elim
      (λ e. ⊎_elim (λ f. (false, false, s ∙ e ∙ p ∙ f)) (λ f. (false, true, s ∙ e ∙ p ∙ f)) (larger (X false false) (X false true)))
      (λ e. ⊎_elim (λ f. (true, false, s ∙ e ∙ q ∙ f)) (λ f. (true, true, s ∙ e ∙ q ∙ f)) (larger (X true false) (X true true))) (larger a b)

  all : (i j : Bool) → X i j ≤ h
  all false false = omega arith
  all false true = omega arith
  all true false = omega arith
  all true true = omega arith

  pub first_is : {r : ℕ} → r ≡ h - 1 → First X r
  first_is e = record { after = λ i j. omega (arith, all i j); before = λ k m. (high.0, high.1, omega (arith, high.2)) }

-- ---- the search

skipped : (t : List ℕ) (X : Quad) (n i : ℕ) → i ≤ n → ((k : ℕ) → k < i → same t X k ≡ false) → seek t X 0 n ≡ seek t X i (n - i)
skipped t X n zero l f = ap (seek t X 0) (omega arith)
skipped t X n (suc i) l f =
    skipped t X n i (omega arith) (λ k m. f k (omega arith)) ∙ scan_skip t X n i l (f i (omega arith)) ∙ ap (λ (k : ℕ). seek t X k (n - k)) (omega arith)

-- of the n nodes, those before i have others than the children X
pub record Before (t : List ℕ) (X : Quad) (n i : ℕ) : Type 0 where
  pub others : (k : ℕ) → k < i → k < n → same t X k ≡ false

-- what a search of the n nodes has found, counted from the node from
abbrev pub Sought : List ℕ → Quad → ℕ → ℕ → Option ℕ → Type 0
Sought t X n from o = MatchOption o (seek t X 0 n ≡ n) (λ i. (from + i < n) × (seek t X 0 n ≡ from + i))

module _ {t : List ℕ} {X : Quad} {n : ℕ} where
  pub begins : {r : ℕ} → Rising t n → First X r → Before t X n r
  begins up f = record {
    others = λ k l m. by_test (same t X k)
        (λ e. let (i, j, c) = f.before k l in absurd (omega (arith, up k m i j, same_kids t X k e i j)))
        (λ e. e);
  }

  -- r may lie behind the nodes
  pub behind : {r : ℕ} → Before t X n r → n ≤ r → seek t X 0 n ≡ n
  behind f l = skipped t X n n (omega arith) (λ k b. f.others k (omega arith) b) ∙ scan_end t X n

  further : {r : ℕ} (i : ℕ) → Before t X n r → ((k : ℕ) → r ≤ k → k < i → here X t (4 * k) ≡ false) → Before t X n i
  further {r} i f h = record { others = λ k l m. ⊎_elim (λ b. f.others k b m) (λ b. here_same X t k ∙ h k b l) (cases_lt k r) }

  pub found : {r : ℕ} → Before t X n r → (o : Option ℕ) → Placed (here X) 4 t r n o → Sought t X n r o
  found f None p = behind (further n f p) (omega arith)
  found {r} f (Some i) p =
      (p.0, skipped t X n (r + i) (omega (arith, p.0)) (λ k b. (further (r + i) f p.2).others k b (omega (arith, p.0))) ∙ scan_hit t X n (r + i) p.0 (here_same X t (r + i) ∙ p.1))
