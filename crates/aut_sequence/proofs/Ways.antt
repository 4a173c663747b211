-- The two ways of mk_sequence.
use mathlib.Core.Path.{◌≡◌, refl, sym, ap}
use mathlib.Core.Bool.{Bool, true, false, not, ◌&&◌}
use mathlib.Core.List.{List}
use Prim.Native.Nat.{ℕ, zero, suc}
use lib.Dec.{eqb}
use borrow.Author.Tests.{eqb-true, ne_eqb}
use Rattle.std.specs.Prelude.{if◌then◌else◌}
use Rattle.common.specs.Outcome.{Outcome, given, Step, return, ◌>>=◌}
use Rattle.aut_steps.specs.Relations as Rel
use Rattle.aut_steps.specs.Tables.{SEQUENCE, TOP, kind_of, op1, op2, Limits, Aut, on_states}
use Rattle.aut_steps.specs.Intern.{intern2}
use Rattle.aut_steps.proofs.Facts.{and_true}
use Rattle.aut_steps.specs.Constructors.{relations, is_relation, mk_spp, mk_top, spp_of, sequence_with, sequence_by}
use Rattle.aut_sequence.specs.Clauses.{regroups, joined_of}

-- four exits, where the third test does not hold after the first two
after_tests : {A : Type 0} (s p q : Bool) (a b c d : A) → s && (not p && not q) ≡ false → (if p then a else if q then b else if s then c else d) ≡ (if p then a else if q then b else d)
after_tests s true q a b c d e = refl
after_tests s false true a b c d e = refl
after_tests true false false a b c d e = absurd (apart e)
  where
    apart : true ≡ false → ⊥
    apart e = cc
after_tests false false false a b c d e = refl

not_true : (b : Bool) → not b ≡ true → b ≡ false
not_true false e = refl
not_true true e = sym e

module _ (N : ℕ) (L : Limits) (again : ℕ → ℕ → Step Aut ℕ) (x y : ℕ) (σ : Aut) where
  pub alone : regroups N σ.states.words x y ≡ false → sequence_with N L again x y σ ≡ joined_of N L x y σ
  unfolding sequence_with joined_of
  alone e =
      let st : List ℕ = σ.states.words in
      ap (λ (o : Outcome Aut ℕ). if relations st x y then spp_of (Rel.sequence N (op1 st x) (op1 st y)) σ else if is_relation st x (Rel.one_at N) then given σ y else if is_relation st x (Rel.zero_at N) then on_states (mk_spp (Rel.zero_at N)) σ else o)
      (after_tests (eqb (kind_of st x) SEQUENCE) (is_relation st y (Rel.one_at N)) (is_relation st y (Rel.zero_at N))
      (given σ x) (on_states (mk_spp (Rel.zero_at N)) σ) ((again (op2 st x) y >>= again (op1 st x)) σ)
      (if eqb (kind_of st x) TOP && eqb (kind_of st y) TOP then on_states mk_top σ else on_states (intern2 L SEQUENCE x y) σ) e)

module _ (N : ℕ) (L : Limits) (x y : ℕ) (σ : Aut) where
  pub at_any_depth : regroups N σ.states.words x y ≡ false → (depth : ℕ) → sequence_by N L depth x y σ ≡ joined_of N L x y σ
  unfolding sequence_by
  at_any_depth e zero = alone N L (λ a b. return a) x y σ e
  at_any_depth e (suc depth) = alone N L (sequence_by N L depth) x y σ e

-- x is a Sequence, and y is neither one nor zero
module _ (N : ℕ) (st : List ℕ) (x y : ℕ) where
  pub record Regrouped : Type 0 where
    pub kind : kind_of st x ≡ SEQUENCE
    pub no_one : is_relation st y (Rel.one_at N) ≡ false
    pub no_zero : is_relation st y (Rel.zero_at N) ≡ false

  pub regrouped : regroups N st x y ≡ true → Regrouped
  regrouped e =
      let (k, n) = and_true (eqb (kind_of st x) SEQUENCE) (not (is_relation st y (Rel.one_at N)) && not (is_relation st y (Rel.zero_at N))) e in
      let (i, j) = and_true (not (is_relation st y (Rel.one_at N))) (not (is_relation st y (Rel.zero_at N))) n in
      record { kind = eqb-true (kind_of st x) SEQUENCE k; no_one = not_true (is_relation st y (Rel.one_at N)) i; no_zero = not_true (is_relation st y (Rel.zero_at N)) j }

  pub no_sequence : (kind_of st x ≡ SEQUENCE → ⊥) → regroups N st x y ≡ false
  no_sequence n = simp (ne_eqb (kind_of st x) SEQUENCE n)
