-- Laws of what a constructor has seen to (Made) and of members without gaps: how each kind meets it, and that it holds in all later tables.
use Rattle.std.specs.Prelude.{if◌then◌else◌}
use mathlib.Core.Path.{◌≡◌, refl, sym, ◌∙◌, ap₂, subst}
use mathlib.Core.Bool.{Bool, true, false}
use mathlib.Core.List.{List}
use mathlib.Core.Logic.{◌≢◌}
use Prim.Native.Nat.{ℕ, zero, suc, ◌+◌, ◌≤◌, ◌<◌}
use native.Mathlib.Omega.{arith}
use lib.Dec.{eqb}
use borrow.Author.Tests.{eqb-true, eqb-false}
use Rattle.spp_steps.proofs.Laws.{by_test}
use Rattle.aut_steps.specs.Tables.{SPP, UNION, INTERSECT, XOR, DIFFERENCE, COMPLEMENT, SEQUENCE, STAR, TOP, kind_of, Limits, Aut}
use Rattle.aut_steps.specs.Kinds.{Form, leaf, constant, one, two, many, nothing, form}
use Rattle.aut_steps.specs.Ascending.{All}
use Rattle.aut_steps.proofs.ListLaws.{all_map, all_with}
use Rattle.aut_steps.specs.Made.{IsRelation, NotBoth, Part, Summands, Sequenced, MadeOf}
use Rattle.aut_steps.specs.Wf.{states, kind, first, second, members, ExtAut, Ok, Made, length_as, members_before, WfAut}
use Rattle.aut_steps.proofs.Wf.{kind_grown, first_grown, second_grown, members_grown, ok_as}

-- ---- for each kind

module _ {N : ℕ} {st : List ℕ} {x y : ℕ} {xs : List ℕ} where
  -- a kind that is interned as it is given
  pub made_given : {k : ℕ} → (UNION ≤ k → STAR < k) → MadeOf N st k x y xs
  made_given f = record {
    union = λ e. absurd (omega (arith, f (omega arith)));
    intersect = λ e. absurd (omega (arith, f (omega arith)));
    xor = λ e. absurd (omega (arith, f (omega arith)));
    difference = λ e. absurd (omega (arith, f (omega arith)));
    complement = λ e. absurd (omega (arith, f (omega arith)));
    sequence = λ e. absurd (omega (arith, f (omega arith)));
    star = λ e. absurd (omega (arith, f (omega arith)));
  }

  pub made_union : Summands N st xs → MadeOf N st UNION x y xs
  made_union m = record {
    union = λ _. m;
    intersect = λ e. absurd (omega arith);
    xor = λ e. absurd (omega arith);
    difference = λ e. absurd (omega arith);
    complement = λ e. absurd (omega arith);
    sequence = λ e. absurd (omega arith);
    star = λ e. absurd (omega arith);
  }

  pub made_intersect : All (Part N st INTERSECT) xs → MadeOf N st INTERSECT x y xs
  made_intersect m = record {
    union = λ e. absurd (omega arith);
    intersect = λ _. m;
    xor = λ e. absurd (omega arith);
    difference = λ e. absurd (omega arith);
    complement = λ e. absurd (omega arith);
    sequence = λ e. absurd (omega arith);
    star = λ e. absurd (omega arith);
  }

  pub made_xor : x < y → NotBoth st SPP x y → MadeOf N st XOR x y xs
  made_xor l n = record {
    union = λ e. absurd (omega arith);
    intersect = λ e. absurd (omega arith);
    xor = λ _. (l, n);
    difference = λ e. absurd (omega arith);
    complement = λ e. absurd (omega arith);
    sequence = λ e. absurd (omega arith);
    star = λ e. absurd (omega arith);
  }

  pub made_difference : x ≢ y → NotBoth st SPP x y → MadeOf N st DIFFERENCE x y xs
  made_difference l n = record {
    union = λ e. absurd (omega arith);
    intersect = λ e. absurd (omega arith);
    xor = λ e. absurd (omega arith);
    difference = λ _. (l, n);
    complement = λ e. absurd (omega arith);
    sequence = λ e. absurd (omega arith);
    star = λ e. absurd (omega arith);
  }

  pub made_complement : kind_of st x ≢ COMPLEMENT → kind_of st x ≢ TOP → MadeOf N st COMPLEMENT x y xs
  made_complement a b = record {
    union = λ e. absurd (omega arith);
    intersect = λ e. absurd (omega arith);
    xor = λ e. absurd (omega arith);
    difference = λ e. absurd (omega arith);
    complement = λ _. (a, b);
    sequence = λ e. absurd (omega arith);
    star = λ e. absurd (omega arith);
  }

  pub made_sequence : Sequenced N st x y → MadeOf N st SEQUENCE x y xs
  made_sequence m = record {
    union = λ e. absurd (omega arith);
    intersect = λ e. absurd (omega arith);
    xor = λ e. absurd (omega arith);
    difference = λ e. absurd (omega arith);
    complement = λ e. absurd (omega arith);
    sequence = λ _. m;
    star = λ e. absurd (omega arith);
  }

  pub made_star : kind_of st x ≢ STAR → kind_of st x ≢ SPP → kind_of st x ≢ TOP → MadeOf N st STAR x y xs
  made_star a b c = record {
    union = λ e. absurd (omega arith);
    intersect = λ e. absurd (omega arith);
    xor = λ e. absurd (omega arith);
    difference = λ e. absurd (omega arith);
    complement = λ e. absurd (omega arith);
    sequence = λ e. absurd (omega arith);
    star = λ _. (a, b, c);
  }

  -- the list matters only to kinds that have one
  pub made_list : {k : ℕ} {ys : List ℕ} → (UNION ≤ k → k ≤ INTERSECT → ys ≡ xs) → MadeOf N st k x y xs → MadeOf N st k x y ys
  made_list f m = record {
    union = λ e. subst (Summands N st) (sym (f (omega arith) (omega arith))) (m.union e);
    intersect = λ e. subst (All (Part N st INTERSECT)) (sym (f (omega arith) (omega arith))) (m.intersect e);
    xor = m.xor;
    difference = m.difference;
    complement = m.complement;
    sequence = m.sequence;
    star = m.star;
  }

  pub made_at : {j k u v : ℕ} → j ≡ k → u ≡ x → v ≡ y → MadeOf N st k x y xs → MadeOf N st j u v xs
  made_at {j} {k} {u} {v} e f g m =
      subst (λ (i : ℕ). MadeOf N st i u v xs) (sym e) (subst (λ (i : ℕ). MadeOf N st k i v xs) (sym f) (subst (λ (i : ℕ). MadeOf N st k x i xs) (sym g) m))

-- ---- later tables

-- the operands of a state of this form are among the first n
abbrev pub Below : {N : ℕ} → Form N → ℕ → ℕ → ℕ → List ℕ → Type 0
Below leaf n x y xs = Unit
Below (constant r) n x y xs = Unit
Below (one c) n x y xs = x < n
Below (two c) n x y xs = (x < n) × (y < n)
Below (many c) n x y xs = All (λ z. z < n) xs
Below nothing n x y xs = Unit

ok_below : {N : ℕ} (f : Form N) (σ : Aut) (x : ℕ) → x < states σ → Ok f σ x → Below f (states σ) (first σ x) (second σ x) (members σ x)
ok_below leaf σ x l o = tt
ok_below (constant r) σ x l o = tt
ok_below (one c) σ x l o = omega (arith, o.earlier)
ok_below (two c) σ x l o = (omega (arith, o.earlier1), omega (arith, o.earlier2))
ok_below (many c) σ x l o = all_map (members σ x) (λ y m. omega arith) o.earlier
ok_below nothing σ x l o = tt

module _ {σ τ : Aut} (w : ExtAut σ τ) where
  was : {x k : ℕ} → x < states σ → kind τ x ≡ k → kind σ x ≡ k
  was {x} l e = sym (kind_grown w x l) ∙ e

  was_relation : {x h : ℕ} → x < states σ → IsRelation τ.states.words x h → IsRelation σ.states.words x h
  was_relation {x} l (e, f) = (was l e, sym (first_grown w x l) ∙ f)

  parts_grown : (N k : ℕ) (xs : List ℕ) → All (λ x. x < states σ) xs → All (Part N σ.states.words k) xs → All (Part N τ.states.words k) xs
  parts_grown N k xs a p = all_with xs (λ x l q. record {
    other = λ e. q.other (was l e);
    no_top = λ e. q.no_top (was l e);
    no_zero = λ e. q.no_zero (was_relation l e);
  }) a p

  pub made_grown : {N : ℕ} (k x y : ℕ) (xs : List ℕ) → Below (form {N = N} k) (states σ) x y xs → MadeOf N σ.states.words k x y xs → MadeOf N τ.states.words k x y xs
  unfolding form
  made_grown {N} k x y xs b m = record {
    union = λ e. let u = m.union e in record {
      parts = parts_grown N UNION xs (below e) u.parts;
      spp = u.spp;
      one_spp = all_with xs (λ z l f s. f (was l s)) (below e) u.one_spp;
    };
    intersect = λ e. parts_grown N INTERSECT xs (below e) (m.intersect e);
    xor = λ e. let (l, n) = m.xor e in let (i, j) = below {j = XOR} e in (l, λ a b. n (was i a) (was j b));
    difference = λ e. let (l, n) = m.difference e in let (i, j) = below {j = DIFFERENCE} e in (l, λ a b. n (was i a) (was j b));
    complement = λ e. let (p, q) = m.complement e in let i = below {j = COMPLEMENT} e in (λ a. p (was i a), λ a. q (was i a));
    sequence = λ e. let s = m.sequence e in let (i, j) = below {j = SEQUENCE} e in record {
      regrouped = λ a. s.regrouped (was i a);
      no_one1 = λ a. s.no_one1 (was_relation i a);
      no_zero1 = λ a. s.no_zero1 (was_relation i a);
      no_one2 = λ a. s.no_one2 (was_relation j a);
      no_zero2 = λ a. s.no_zero2 (was_relation j a);
      relations = λ a b. s.relations (was i a) (was j b);
      tops = λ a b. s.tops (was i a) (was j b);
    };
    star = λ e. let (p, q, r) = m.star e in let i = below {j = STAR} e in (λ a. p (was i a), λ a. q (was i a), λ a. r (was i a));
  }
    where
      below : {j : ℕ} → k ≡ j → Below (form {N = N} j) (states σ) x y xs
      below {j} e = subst (λ (i : ℕ). Below (form {N = N} i) (states σ) x y xs) e b

  pub before_grown : (n : ℕ) → n ≤ states σ → members_before τ n ≡ members_before σ n
  unfolding members_before
  before_grown zero l = refl
  before_grown (suc n) l = ap₂ (λ (a b : ℕ). a + b) (before_grown n (omega arith)) (ap₂ length_as (kind_grown w n (omega arith)) (second_grown w n (omega arith)))

  module _ {N : ℕ} {L : Limits} (g : WfAut N L σ) (x : ℕ) (l : x < states σ) where
    list_kept : UNION ≤ kind σ x → kind σ x ≤ INTERSECT → members τ x ≡ members σ x
    unfolding form
    list_kept a b =
        by_test (eqb (kind σ x) UNION)
        (λ t. members_grown w x l (ok_as g UNION l (eqb-true (kind σ x) UNION t)).inside)
        (λ t. members_grown w x l (ok_as g INTERSECT l (omega (arith, eqb-false (kind σ x) UNION t))).inside)

    pub made_kept : Made N τ x
    made_kept =
        made_at (kind_grown w x l) (first_grown w x l) (second_grown w x l)
        (made_list list_kept (made_grown (kind σ x) (first σ x) (second σ x) (members σ x) (ok_below (form (kind σ x)) σ x l (g.ok x l)) (g.made x l)))

    pub packed_kept : UNION ≤ kind τ x → kind τ x ≤ INTERSECT → first τ x ≡ members_before τ x
    packed_kept a b =
        first_grown w x l ∙ g.packed x l (omega (arith, kind_grown w x l)) (omega (arith, kind_grown w x l)) ∙ sym (before_grown x (omega arith))

-- a state that is no list has no members
pub none_as : (k c : ℕ) → (UNION ≤ k → k ≤ INTERSECT → ⊥) → length_as k c ≡ 0
none_as k c f = go (eqb k UNION) refl (eqb k INTERSECT) refl
  where
    go : (a : Bool) → eqb k UNION ≡ a → (b : Bool) → eqb k INTERSECT ≡ b → (if a then c else if b then c else 0) ≡ 0
    go true p b q = let e : k ≡ UNION = eqb-true k UNION p in absurd (f (omega arith) (omega arith))
    go false p true q = let e : k ≡ INTERSECT = eqb-true k INTERSECT q in absurd (f (omega arith) (omega arith))
    go false p false q = refl
