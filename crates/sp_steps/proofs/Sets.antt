-- 01, "Port order" 1: union, intersection, complement, symmetric difference and difference of packet sets mean just that; so do the tests for the empty and the full set.
use mathlib.Core.Path.{◌≡◌, refl}
use mathlib.Core.Bool.{Bool, true, false, not, ◌&&◌, ◌||◌}
use Prim.Native.Nat.{ℕ, ◌≤◌}
use borrow.Author.Tests.{eqb-true, eq-eqb}
use Rattle.common.specs.Packets.{Packet, Set, ◌∖◌, ◌∪◌}
use Rattle.common.specs.Outcome.{Step}
use Rattle.common.specs.Runs.{Table}
use Rattle.common.proofs.Runs.{StableSpec, runs_bind, runs_return}
use Rattle.sp_steps.specs.Op.{Op}
use Rattle.sp_steps.proofs.Op.{sem}
use Rattle.sp_steps.specs.Model.{zero_at, one_at, union, xor, complement, intersect, difference, is_zero, is_universal}
use Rattle.sp_steps.specs.Wf.{Wf, Below, Denotes}
use Rattle.sp_steps.proofs.Laws.{sp_theory, den_map, den_flip, den_zero, den_one, den_same}
use Rattle.sp_steps.proofs.Apply.{apply_runs, agree}

infixl 40 ◌∩◌ ◌⊕◌
abbrev pub ◌∩◌ : {n : ℕ} → Set n → Set n → Set n
(s ∩ t) p = s p && t p

-- what is in one of the two and not in the other
abbrev pub ◌⊕◌ : {n : ℕ} → Set n → Set n → Set n
(s ⊕ t) p = sem Op.xor (s p) (t p)

pub complement_den : {σ : Table} {d a : ℕ} {A : Set d} → Denotes σ d a A → Denotes σ d (complement a) (λ p. not (A p))
unfolding complement
complement_den X = den_flip X

-- f is the operation F on sets of depth d
abbrev pub Does : (N d : ℕ) → (ℕ → ℕ → Step Table ℕ) → (Set d → Set d → Set d) → Type 0
Does N d f F = (σ : Table) (a b : ℕ) (A B : Set d) → Wf N σ → Denotes σ d a A → Denotes σ d b B → StableSpec (sp_theory N) (f a b) (λ τ h. Denotes τ d h (F A B)) σ

not_or_not : (x y : Bool) → not (not x || not y) ≡ (x && y)
not_or_not true true = refl
not_or_not true false = refl
not_or_not false y = refl

not_or : (x y : Bool) → not (not x || y) ≡ (x && not y)
not_or true y = refl
not_or false y = refl

module _ (N d : ℕ) (l : d ≤ N) where
  pub union_runs : Does N d (union d) ◌∪◌
  unfolding union
  union_runs = apply_runs (Below N) N Op.union d l

  pub xor_runs : Does N d (xor d) ◌⊕◌
  unfolding xor
  xor_runs = apply_runs (Below N) N Op.xor d l

  pub intersect_runs : Does N d (intersect d) ◌∩◌
  unfolding intersect
  intersect_runs σ a b A B w X Y =
      runs_bind (sp_theory N) (union_runs σ _ _ _ _ w (complement_den X) (complement_den Y))
      (λ τ r _ v R. runs_return (sp_theory N) (complement r) v (den_map (λ p. not_or_not (A p) (B p)) (complement_den R)))

  pub difference_runs : Does N d (difference d) ◌∖◌
  unfolding difference
  difference_runs σ a b A B w X Y =
      runs_bind (sp_theory N) (union_runs σ _ _ _ _ w (complement_den X) Y)
      (λ τ r _ v R. runs_return (sp_theory N) (complement r) v (den_map (λ p. not_or (A p) (B p)) (complement_den R)))

  module _ {σ : Table} {a : ℕ} {A : Set d} (w : Wf N σ) (X : Denotes σ d a A) where
    -- a set is tested to be empty exactly if it has no packet
    pub zero_none : is_zero d a ≡ true → (p : Packet d) → A p ≡ false
    unfolding is_zero
    zero_none e p = agree X (den_zero w d l) (eqb-true a (zero_at d) e) p

    pub none_zero : ((p : Packet d) → A p ≡ false) → is_zero d a ≡ true
    unfolding is_zero
    none_zero f = eq-eqb a (zero_at d) (den_same w X (den_zero w d l) f)

    -- and to be full exactly if it has every packet
    pub universal_all : is_universal d a ≡ true → (p : Packet d) → A p ≡ true
    unfolding is_universal
    universal_all e p = agree X (den_one w d l) (eqb-true a (one_at d) e) p

    pub all_universal : ((p : Packet d) → A p ≡ true) → is_universal d a ≡ true
    unfolding is_universal
    all_universal f = eq-eqb a (one_at d) (den_same w X (den_one w d l) f)
