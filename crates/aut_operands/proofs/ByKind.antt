-- The operands of a state by kind, as they are read, and what tells that a state is worked out.
use mathlib.Core.Path.{◌≡◌, refl, sym, ◌∙◌, ap, ap₂, subst}
use mathlib.Core.Bool.{Bool, true, false}
use mathlib.Core.List.{List, [], ◌∷◌}
use Prim.Native.Nat.{ℕ, ◌+◌, ◌-◌, ◌*◌, ◌≤◌}
use native.Mathlib.Omega.{arith}
use lib.Dec.{eqb}
use lib.ListN.{length, get_or, take, drop}
use borrow.Author.Tests.{eqb-true, eqb-false, ne_eqb}
use Rattle.spp_steps.proofs.Laws.{by_test}
use Rattle.aut_steps.specs.Tables.{SPP, UNION, INTERSECT, XOR, DIFFERENCE, COMPLEMENT, SEQUENCE, STAR, UNTIL, kind_of, op1, op2, words, list_of}
use Rattle.aut_states.proofs.Slices.{words_take}
use Rattle.aut_delta_steps.specs.Epsilon.{epsilon_of}
use Rattle.aut_delta_steps.specs.Delta.{count_of}
use Rattle.aut_delta_steps.specs.EpsilonReads.{operands_with}
use Rattle.aut_delta_steps.specs.DeltaReads.{list_operands_with}
use Rattle.aut_operands.specs.declared.Part.{Part}
use Rattle.aut_operands.specs.declared.Part.TheVariants as part
use Rattle.aut_operands.specs.Clauses.{operands_by, operands_of, Inside, Told}

-- the words from a to b
slice : (s : List ℕ) (a b k : ℕ) → a + k ≡ b → b ≤ length s → words s a k ≡ take (b - a) (drop a s)
slice s a b k e l = words_take s a k (omega arith) ∙ ap (λ (n : ℕ). take n (drop a s)) {x = k} {y = b - a} (omega arith)

-- by kind, for both parts
by : (P : List ℕ → Type 0) (k : ℕ) (ys : List ℕ) (a b : ℕ) → P (operands_with k ys a b) → P (list_operands_with k ys a b) → (p : Part) → P (operands_by p k ys a b)
by P k ys a b e d part.Epsilon = e
by P k ys a b e d part.Delta = d

module _ (p : Part) {st mem : List ℕ} {x k : ℕ} (w : k ≡ kind_of st x) (i : Inside st mem x) where
  abbrev ys : List ℕ
  ys = words mem (op1 st x) (op2 st x)

  -- if they are those of kind k
  as_kind : {zs : List ℕ} → operands_by p k ys (op1 st x) (op2 st x) ≡ zs → operands_of p st mem x ≡ zs
  as_kind e = ap (λ (k : ℕ). operands_by p k ys (op1 st x) (op2 st x)) (sym w) ∙ e

  is_kind : (j : ℕ) (zs : List ℕ) → operands_with j ys (op1 st x) (op2 st x) ≡ zs → list_operands_with j ys (op1 st x) (op2 st x) ≡ zs → k ≡ j → operands_of p st mem x ≡ zs
  is_kind j zs e d q = as_kind (ap (λ (k : ℕ). operands_by p k ys (op1 st x) (op2 st x)) q ∙ by (λ us. us ≡ zs) j ys (op1 st x) (op2 st x) e d p)

  pub many_are : UNION ≤ k → k ≤ INTERSECT → operands_of p st mem x ≡ list_of st mem x
  unfolding operands_with list_operands_with
  many_are l m = by_test (eqb k UNION) (λ q. is_kind UNION ys refl refl (eqb-true k UNION q)) (λ q. is_kind INTERSECT ys refl refl (omega (arith, eqb-false k UNION q)))

  both : op1 st x ∷ op2 st x ∷ [] ≡ take (12 * x + 1 + 2 - (12 * x + 1)) (drop (12 * x + 1) st)
  unfolding op1 op2 words
  both =
      ap (λ (j : ℕ). get_or st (12 * x + 1) 0 ∷ get_or st j 0 ∷ []) {x = 12 * x + 2} {y = 12 * x + 1 + 1} (omega arith)
      ∙ slice st (12 * x + 1) (12 * x + 1 + 2) 2 (omega arith) (omega (arith, i.state))

  pub both_are : XOR ≤ k → k ≤ SEQUENCE → (k ≡ COMPLEMENT → ⊥) → operands_of p st mem x ≡ take (12 * x + 1 + 2 - (12 * x + 1)) (drop (12 * x + 1) st)
  unfolding operands_with list_operands_with
  both_are l m n =
      by_test (eqb k XOR) (λ q. is_kind XOR (op1 st x ∷ op2 st x ∷ []) refl refl (eqb-true k XOR q))
      (λ q. by_test (eqb k DIFFERENCE) (λ r. is_kind DIFFERENCE (op1 st x ∷ op2 st x ∷ []) refl refl (eqb-true k DIFFERENCE r))
      (λ r. is_kind SEQUENCE (op1 st x ∷ op2 st x ∷ []) refl refl (omega (arith, eqb-false k XOR q, eqb-false k DIFFERENCE r, n))))
      ∙ both

  pub first_are : COMPLEMENT ≤ k → k ≤ STAR → (k ≡ SEQUENCE → ⊥) → operands_of p st mem x ≡ take (12 * x + 1 + 1 - (12 * x + 1)) (drop (12 * x + 1) st)
  unfolding operands_with list_operands_with op1 words
  first_are l m n =
      by_test (eqb k COMPLEMENT) (λ q. is_kind COMPLEMENT (op1 st x ∷ []) refl refl (eqb-true k COMPLEMENT q)) (λ q. is_kind STAR (op1 st x ∷ []) refl refl (omega (arith, eqb-false k COMPLEMENT q, n)))
      ∙ slice st (12 * x + 1) (12 * x + 1 + 1) 1 (omega arith) (omega (arith, i.state))

  pub epsilon_until : k ≡ UNTIL → p ≡ part.Epsilon → operands_of p st mem x ≡ take (12 * x + 1 + 2 - (12 * x + 1 + 1)) (drop (12 * x + 1 + 1) st)
  unfolding operands_with op2 words
  epsilon_until e q =
      as_kind (ap₂ (λ (p : Part) (k : ℕ). operands_by p k ys (op1 st x) (op2 st x)) q e)
      ∙ ap (λ (j : ℕ). get_or st j 0 ∷ []) {x = 12 * x + 2} {y = 12 * x + 1 + 1} (omega arith)
      ∙ slice st (12 * x + 1 + 1) (12 * x + 1 + 2) 1 (omega arith) (omega (arith, i.state))

  pub delta_until : k ≡ UNTIL → p ≡ part.Delta → operands_of p st mem x ≡ take (12 * x + 1 + 2 - (12 * x + 1)) (drop (12 * x + 1) st)
  unfolding list_operands_with
  delta_until e q = as_kind (ap₂ (λ (p : Part) (k : ℕ). operands_by p k ys (op1 st x) (op2 st x)) q e) ∙ both

  pub none_are : (k ≡ UNION → ⊥) → (k ≡ INTERSECT → ⊥) → (k ≡ XOR → ⊥) → (k ≡ DIFFERENCE → ⊥) → (k ≡ COMPLEMENT → ⊥) → (k ≡ SEQUENCE → ⊥) → (k ≡ STAR → ⊥) → (k ≡ UNTIL → ⊥)
      → operands_of p st mem x ≡ take (12 * x + 1 - (12 * x + 1)) (drop (12 * x + 1) st)
  unfolding operands_with list_operands_with words
  none_are n2 n3 n4 n5 n6 n7 n8 n11 =
      as_kind (by (λ us. us ≡ []) k ys (op1 st x) (op2 st x)
      (simp (ne_eqb k UNION n2, ne_eqb k INTERSECT n3, ne_eqb k XOR n4, ne_eqb k DIFFERENCE n5, ne_eqb k COMPLEMENT n6, ne_eqb k SEQUENCE n7, ne_eqb k STAR n8, ne_eqb k UNTIL n11))
      (simp (ne_eqb k UNION n2, ne_eqb k INTERSECT n3, ne_eqb k XOR n4, ne_eqb k DIFFERENCE n5, ne_eqb k COMPLEMENT n6, ne_eqb k SEQUENCE n7, ne_eqb k STAR n8, ne_eqb k UNTIL n11))
      p)
      ∙ slice st (12 * x + 1) (12 * x + 1) 0 (omega arith) (omega (arith, i.state))

-- ---- is_open

module _ {p : Part} (st : List ℕ) (y : ℕ) where
  pub epsilon_told : p ≡ part.Epsilon → (kind_of st y ≡ SPP → ⊥) → Told p st y (eqb (get_or st (12 * y + 4) 0) 0)
  unfolding epsilon_of
  epsilon_told q n = subst (λ (p : Part). Told p st y (eqb (get_or st (12 * y + 4) 0) 0)) (sym q) (go (eqb (get_or st (12 * y + 4) 0) 0) refl)
    where
      go : (b : Bool) → eqb (get_or st (12 * y + 4) 0) 0 ≡ b → Told part.Epsilon st y b
      go true e = (n, eqb-true (get_or st (12 * y + 4) 0) 0 e)
      go false e = λ m. omega (arith, eqb-false (get_or st (12 * y + 4) 0) 0 e)

  pub count_told : p ≡ part.Delta → Told p st y (eqb (get_or st (12 * y + 6) 0) 0)
  unfolding count_of
  count_told q = subst (λ (p : Part). Told p st y (eqb (get_or st (12 * y + 6) 0) 0)) (sym q) (go (eqb (get_or st (12 * y + 6) 0) 0) refl)
    where
      go : (b : Bool) → eqb (get_or st (12 * y + 6) 0) 0 ≡ b → Told part.Delta st y b
      go true e = eqb-true (get_or st (12 * y + 6) 0) 0 e
      go false e = omega (arith, eqb-false (get_or st (12 * y + 6) 0) 0 e)
