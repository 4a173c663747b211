-- What the operands of a state have: lists among the transitions, and of a Sequence and a Star the first one's epsilon.
use Rattle.std.specs.Prelude.{if◌then◌else◌}
use mathlib.Core.Path.{◌≡◌, refl, sym, ap, subst}
use mathlib.Core.Bool.{false}
use mathlib.Core.List.{List, [], ◌∷◌}
use Prim.Native.Nat.{ℕ, ◌+◌, ◌*◌, ◌-◌, ◌≤◌, ◌<◌}
use native.Mathlib.Omega.{arith}
use lib.Dec.{eqb, leb}
use lib.ListN.{length, get_or, length-append}
use borrow.Author.Tests.{eqb-true, eqb-false, leb-true, leb-false, ne_eqb}
use Rattle.netkat.specs.Rules.{next}
use Rattle.spp_steps.proofs.Laws.{by_test}
use Rattle.aut_steps.specs.Tables.{SPP, UNION, INTERSECT, XOR, DIFFERENCE, COMPLEMENT, SEQUENCE, STAR, DUP, NEXT, UNTIL, TOP, kind_of, op1, op2, words}
use Rattle.aut_steps.specs.Kinds.{form}
use Rattle.aut_steps.proofs.Facts.{words_length}
use Rattle.aut_steps.specs.Ascending.{All}
use Rattle.aut_steps.proofs.ListLaws.{all_with}
use Rattle.aut_steps.specs.Wf.{WfAut}
use Rattle.aut_steps.proofs.Wf.{ok_as}
use Rattle.aut_st_steps.specs.ListSpec.{Label}
use Rattle.aut_delta_steps.specs.Epsilon.{epsilon_of, value_of}
use Rattle.aut_delta_steps.specs.Delta.{count_of, Store}
use Rattle.aut_delta_steps.specs.DeltaReads.{list_operands_with, list_operands}
use Rattle.aut_delta_steps.proofs.DeltaReads.{list_operands_below}
use Rattle.aut_delta_steps.specs.EpsilonDown.{Known}
use Rattle.aut_delta_steps.proofs.EpsilonDown.{known_means}
use Rattle.aut_delta_steps.proofs.Operands.{below_one, last_kind, no_kind}
use Rattle.aut_states.specs.Clauses.{limits_of}
use Rattle.aut_states.specs.declared.Limits.{Limits}
use Rattle.aut_relations.proofs.Order.{in_table}
use Rattle.aut_st_source.specs.Clauses.{stored, Walked}
use Rattle.aut_st_source.specs.declared.Span.{Span}
use Rattle.aut_st_source.specs.Stored.{PreFind, PostFind}
use Rattle.aut_delta_many.proofs.Lists as Found
use Rattle.aut_delta_kinds.specs.Clauses.{PreTogether, Two}

-- ---- an epsilon, as it is read

module _ (st : List ℕ) (y : ℕ) where
  pub spp_value : kind_of st y ≡ SPP → value_of st y ≡ op1 st y
  unfolding value_of
  spp_value e = ap (λ (k : ℕ). if eqb k SPP then op1 st y else epsilon_of st y - 1) e

  module _ (n : kind_of st y ≡ SPP → ⊥) where
    pub word_value : value_of st y ≡ get_or st (12 * y + 4) 0 - 1
    unfolding value_of epsilon_of
    word_value = simp (ne_eqb (kind_of st y) SPP n)

    pub word_marked : Known st y → 0 < get_or st (12 * y + 4) 0
    unfolding epsilon_of
    word_marked k = k n

from_four : {k : ℕ} → 1 ≤ k → (k ≡ 1 → ⊥) → (k ≡ 2 → ⊥) → (k ≡ 3 → ⊥) → 4 ≤ k
from_four l a b c = omega arith

to_eleven : {k : ℕ} → k ≤ 12 → (k ≡ 12 → ⊥) → k ≤ 11
to_eleven l n = omega arith

-- .. of a Sequence
pub is_seven : {k : ℕ} → Two k → (k ≡ 4 → ⊥) → (k ≡ 5 → ⊥) → (k ≡ 11 → ⊥) → k ≡ 7
is_seven t a b c = seven t.from t.to t.complement t.star t.dup t.next a b c
  where
    seven : {k : ℕ} → 4 ≤ k → k ≤ 11 → (k ≡ 6 → ⊥) → (k ≡ 8 → ⊥) → (k ≡ 9 → ⊥) → (k ≡ 10 → ⊥) → (k ≡ 4 → ⊥) → (k ≡ 5 → ⊥) → (k ≡ 11 → ⊥) → k ≡ 7
    seven from to n6 n8 n9 n10 n4 n5 n11 = omega arith

-- ---- a state x whose list is to be put together

module _ {N : ℕ} {l : Limits} {σ : Store} {s : List ℕ} {x : ℕ} (W : PreTogether N l σ s x) where
  abbrev st : List ℕ
  st = σ.aut.states.words

  abbrev K : ℕ
  K = kind_of st x

  good : WfAut N (limits_of l) σ.aut
  good = W.prepared.ready.good

  pub look_ready : 12 * x + 11 < length st
  look_ready = in_table good W.has

  -- ---- a state whose list is stored

  abbrev pub Operand : ℕ → Type 0
  Operand y = (y < σ.aut.states.count) × (0 < count_of st y)

  pub find_ready : {y : ℕ} → Operand y → PreFind st y
  find_ready p = Found.find_ready W.prepared p.0 p.1

  pub walked : {y : ℕ} {r : Span} → Operand y → PostFind st y r → Walked N σ.aut σ.transitions.words s (stored r.start r.count)
  walked p F = record { within = Found.found_in W.prepared p.0 p.1 F; edges = Found.found_at W.prepared p.0 p.1 F }

  -- ---- the operands are such

  operands : All Operand (list_operands σ x)
  operands = all_with (list_operands σ x) (λ y b h. (b.state, h)) (list_operands_below W.prepared.worked W.has) W.lists

  -- ---- the kind is one of the twelve

  low : K ≡ 0 → ⊥
  unfolding form
  low e = last_kind good W.has (ap (λ (k : ℕ). form {N = N} k) e)

  high : 13 ≤ K → ⊥
  high m =
      last_kind good W.has (no_kind K (no SPP (omega arith)) (no UNION (omega arith)) (no INTERSECT (omega arith)) (no XOR (omega arith)) (no DIFFERENCE (omega arith)) (no COMPLEMENT (omega arith))
      (no SEQUENCE (omega arith)) (no STAR (omega arith)) (no DUP (omega arith)) (no NEXT (omega arith)) (no UNTIL (omega arith)) (no TOP (omega arith)))
    where
      no : (j : ℕ) → j < 13 → eqb K j ≡ false
      no j n = ne_eqb K j (λ e. omega arith)

  module _ (n1 : K ≡ SPP → ⊥) (n2 : K ≡ UNION → ⊥) (n3 : K ≡ INTERSECT → ⊥) (n6 : K ≡ COMPLEMENT → ⊥) (n8 : K ≡ STAR → ⊥) (n9 : K ≡ DUP → ⊥) (n10 : K ≡ NEXT → ⊥) (n12 : K ≡ TOP → ⊥) where
    at_most : K ≤ 12
    at_most = by_test (leb 13 K) (λ q. absurd (high (leb-true 13 K q))) (λ q. omega (arith, leb-false 13 K q))

    at_least : 1 ≤ K
    at_least = by_test (eqb K 0) (λ q. absurd (low (eqb-true K 0 q))) (λ q. omega (arith, eqb-false K 0 q))

    pub two_left : Two K
    two_left = record { from = from_four at_least n1 n2 n3; to = to_eleven at_most n12; complement = n6; star = n8; dup = n9; next = n10 }

  -- ---- with its words in variables

  module _ {a b : ℕ} (pa : a ≡ op1 st x) (pb : b ≡ op2 st x) where
    operands_at : {k : ℕ} → K ≡ k → All Operand (list_operands_with k (words σ.aut.members.words a b) a b)
    operands_at {k} e =
        subst (λ (b : ℕ). All Operand (list_operands_with k (words σ.aut.members.words a b) a b)) (sym pb)
        (subst (λ (a : ℕ). All Operand (list_operands_with k (words σ.aut.members.words a (op2 st x)) a (op2 st x))) (sym pa)
        (subst (λ (k : ℕ). All Operand (list_operands_with k (words σ.aut.members.words (op1 st x) (op2 st x)) (op1 st x) (op2 st x))) e operands))

    both : {k : ℕ} → K ≡ k → list_operands_with k (words σ.aut.members.words a b) a b ≡ a ∷ b ∷ [] → Operand a × Operand b
    both e q = let p : All Operand (a ∷ b ∷ []) = subst (All Operand) q (operands_at e) in (p.0, p.1.0)

    pub two_operands : Two K → Operand a × Operand b
    unfolding list_operands_with
    two_operands t =
        by_test (eqb K XOR) (λ q. both (eqb-true K XOR q) refl)
        (λ q4. by_test (eqb K DIFFERENCE) (λ q. both (eqb-true K DIFFERENCE q) refl)
        (λ q5. by_test (eqb K UNTIL) (λ q. both (eqb-true K UNTIL q) refl)
        (λ q11. both (is_seven t (eqb-false K XOR q4) (eqb-false K DIFFERENCE q5) (eqb-false K UNTIL q11)) refl)))

    pub complement_operand : K ≡ COMPLEMENT → Operand a
    unfolding list_operands_with
    complement_operand e = (operands_at e).0

    pub star_operand : K ≡ STAR → Operand a
    unfolding list_operands_with
    star_operand e = (operands_at e).0

    pub next_operand : K ≡ NEXT → a < σ.aut.states.count
    unfolding form
    next_operand e = subst (λ (a : ℕ). a < σ.aut.states.count) (sym pa) (below_one good W.has NEXT e next refl).state

    -- ---- the first one's epsilon

    module _ (lo : SEQUENCE ≤ K) (hi : K ≤ STAR) (p : Operand a) where
      known : Known st a
      known = subst (Known st) (sym pa) (W.known lo hi)

      pub value_ask : (12 * a + 11 < length st) × Known st a
      value_ask = (in_table good p.0, known)

      pub epsilon_label : {h : ℕ} → value_of st a ≡ h → Label N σ.aut h
      epsilon_label q = subst (Label N σ.aut) q (record { at = (known_means (record { good = good; epsilons = W.prepared.worked.epsilons }) p.0 known).den.at })

    -- ---- members

    pub union_members : K ≡ UNION → All Operand (words σ.aut.members.words a b)
    unfolding list_operands_with
    union_members e = operands_at e

    pub intersect_members : K ≡ INTERSECT → All Operand (words σ.aut.members.words a b)
    unfolding list_operands_with
    intersect_members e = operands_at e

    pub union_some : K ≡ UNION → (1 ≤ b) × (a + b ≤ σ.aut.members.count)
    unfolding form
    union_some e = (omega (arith, pb, (good.unions x W.has e).some, words_length σ.aut.members.words (op1 st x) (op2 st x)), omega (arith, pa, pb, (ok_as good UNION W.has e).inside))

    pub intersect_some : K ≡ INTERSECT → (1 ≤ b) × (a + b ≤ σ.aut.members.count)
    unfolding form
    intersect_some e =
        let m = good.intersects x W.has e in
        (omega (arith, pb, words_length σ.aut.members.words (op1 st x) (op2 st x), ap length m.parts, length-append m.others m.last, m.some), omega (arith, pa, pb, (ok_as good INTERSECT W.has e).inside))
