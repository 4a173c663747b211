-- mk_sequence is at most two deep, however its operands are nested. The first operand of a Sequence is none (Made), so a call on it makes no call; and second operands, which may be
-- Sequences, are a chain that is walked: its end is joined to y, and then the first operands from the last to the first, each by a step that calls nothing.
use Rattle.std.specs.Prelude.{if◌then◌else◌}
use mathlib.Core.Path.{◌≡◌, refl, sym, ◌∙◌, ap, subst}
use mathlib.Core.Bool.{Bool, true, false, ◌&&◌}
use mathlib.Core.Logic.{◌≢◌}
use Prim.Native.Nat.{ℕ, zero, suc, ◌≤◌, ◌<◌}
use native.Mathlib.Omega.{arith}
use lib.Dec.{eqb}
use borrow.Author.Tests.{eqb-true, eqb-false, ne_eqb}
use Rattle.common.specs.Outcome.{Outcome, refused, given, Step, return, after, ◌>>=◌}
use Rattle.netkat.specs.Rules.{Join}
use Rattle.aut_steps.specs.Relations as Rel
use Rattle.aut_steps.specs.Tables.{SEQUENCE, TOP, Limits, Aut, on_states}
use Rattle.aut_steps.specs.Intern.{intern2}
use Rattle.aut_steps.specs.Constructors.{mk_spp, mk_top, spp_of, relations, is_relation, sequence_with, sequence_by, mk_sequence}
use Rattle.aut_steps.specs.Kinds.{form}
use Rattle.aut_steps.specs.Wf.{states, kind, first, second, nesting, Two, WfAut}
use Rattle.aut_steps.proofs.Wf.{kind_grown, ok_as}
use Rattle.aut_steps.proofs.StepSpec.{StepSpec, came}
use Rattle.aut_steps.specs.Meaning.{Holds}
use Rattle.aut_steps.proofs.Meaning.{Is}
use Rattle.aut_steps.proofs.SequenceLaws.{sequence_by_goes, sequence_depth}

module _ (N : ℕ) (L : Limits) where
  -- x; y with no call
  abbrev pub alone : ℕ → ℕ → Step Aut ℕ
  alone x y = sequence_with N L (λ a b. return a) x y

  -- x; y along x's chain of second operands, at most so many of them
  unfoldable pub chained : ℕ → ℕ → ℕ → Step Aut ℕ
  chained zero x y σ = alone x y σ
  chained (suc d) x y σ = if eqb (kind σ x) SEQUENCE then (chained d (second σ x) y >>= alone (first σ x)) σ else alone x y σ

  -- where x is no Sequence, nothing is called
  pub sequence_alone : (again : ℕ → ℕ → Step Aut ℕ) (x y : ℕ) (σ : Aut) → kind σ x ≢ SEQUENCE → sequence_with N L again x y σ ≡ alone x y σ
  unfolding sequence_with
  sequence_alone again x y σ n = let e : eqb (kind σ x) SEQUENCE ≡ false = ne_eqb (kind σ x) SEQUENCE n in simp e

  by_alone : (d x y : ℕ) (σ : Aut) → kind σ x ≢ SEQUENCE → sequence_by N L d x y σ ≡ alone x y σ
  unfolding sequence_by
  by_alone zero x y σ n = refl
  by_alone (suc d) x y σ n = sequence_alone (sequence_by N L d) x y σ n

  chained_alone : (d x y : ℕ) (σ : Aut) → kind σ x ≢ SEQUENCE → chained d x y σ ≡ alone x y σ
  unfolding chained
  chained_alone zero x y σ n = refl
  chained_alone (suc d) x y σ n = let e : eqb (kind σ x) SEQUENCE ≡ false = ne_eqb (kind σ x) SEQUENCE n in simp e

  -- ---- in tables in order

  module _ {σ : Aut} (g : WfAut N L σ) {x : ℕ} (l : x < states σ) (s : kind σ x ≡ SEQUENCE) where
    parts : Two σ x
    unfolding form
    parts = ok_as g SEQUENCE l s

    -- what is called on the first operand calls nothing
    first_alone : {y : ℕ} → y < states σ → (d : ℕ) → nesting σ (second σ x) ≤ d → (k : ℕ → Step Aut ℕ) → ((z : ℕ) (τ : Aut) → kind τ (first σ x) ≢ SEQUENCE → k z τ ≡ alone (first σ x) z τ)
        → after (sequence_by N L d (second σ x) y σ) (sequence_by N L d (first σ x)) ≡ after (sequence_by N L d (second σ x) y σ) k
    first_alone {y} m d n k f = go (sequence_by N L d (second σ x) y σ) refl
      where
        go : (o : Outcome Aut ℕ) → sequence_by N L d (second σ x) y σ ≡ o → after o (sequence_by N L d (first σ x)) ≡ after o k
        go (refused number) e = refl
        go (given τ z) e =
            let r = came (subst (StepSpec N L (Is N (Join (Holds N σ (second σ x)) (Holds N σ y))) σ) e (sequence_by_goes d g (omega (arith, parts.earlier2)) m n)) in
            let none : kind τ (first σ x) ≢ SEQUENCE = λ q. ((g.made x l).sequence s).regrouped (sym (kind_grown r.grown (first σ x) (omega (arith, parts.earlier1))) ∙ q) in
            by_alone d (first σ x) z τ none ∙ sym (f z τ none)

  by_chained : (d : ℕ) {σ : Aut} → WfAut N L σ → {x y : ℕ} → x < states σ → y < states σ → is_relation σ.states.words y (Rel.one_at N) ≡ false → is_relation σ.states.words y (Rel.zero_at N) ≡ false
      → nesting σ x ≤ d → sequence_by N L d x y σ ≡ chained d x y σ
  unfolding sequence_by chained sequence_with
  by_chained zero g l m a b n = refl
  by_chained (suc d) {σ} g {x} {y} l m a b n = go (λ i j. by_chained d g i m a b j) (eqb (kind σ x) SEQUENCE) refl
    where
      go : (second σ x < states σ → nesting σ (second σ x) ≤ d → sequence_by N L d (second σ x) y σ ≡ chained d (second σ x) y σ) → (c : Bool) → eqb (kind σ x) SEQUENCE ≡ c
          → sequence_with N L (sequence_by N L d) x y σ ≡ (if c then after (chained d (second σ x) y σ) (alone (first σ x)) else alone x y σ)
      go ih false q = sequence_alone (sequence_by N L d) x y σ (eqb-false (kind σ x) SEQUENCE q)
      go ih true q =
          let s : kind σ x ≡ SEQUENCE = eqb-true (kind σ x) SEQUENCE q in
          let t : Two σ x = parts g l s in
          let it : sequence_with N L (sequence_by N L d) x y σ ≡ after (sequence_by N L d (second σ x) y σ) (sequence_by N L d (first σ x)) = simp (s, a, b) in
          it ∙ first_alone g l s m d (omega (arith, t.nested)) (alone (first σ x)) (λ z τ k. refl)
          ∙ ap (λ (o : Outcome Aut ℕ). after o (alone (first σ x))) (ih (omega (arith, t.earlier2)) (omega (arith, t.nested)))

  -- x; y goes its own way, or along x's chain: what it calls calls nothing
  pub mk_sequence_two : {σ : Aut} → WfAut N L σ → {x y : ℕ} → x < states σ → y < states σ → mk_sequence N L x y σ ≡ sequence_with N L (chained (nesting σ x)) x y σ
  unfolding mk_sequence sequence_by sequence_with
  mk_sequence_two {σ} g {x} {y} l m =
      sequence_depth d (suc d) g l m (omega arith) (omega arith)
      ∙ go (is_relation σ.states.words y (Rel.one_at N)) refl (is_relation σ.states.words y (Rel.zero_at N)) refl (eqb (kind σ x) SEQUENCE) refl
    where
      d : ℕ
      d = nesting σ x

      body : Bool → Bool → Bool → Outcome Aut ℕ → Outcome Aut ℕ
      body a b c o =
          if relations σ.states.words x y then spp_of (Rel.sequence N (first σ x) (first σ y)) σ
          else if is_relation σ.states.words x (Rel.one_at N) then given σ y
          else if is_relation σ.states.words x (Rel.zero_at N) then on_states (mk_spp (Rel.zero_at N)) σ
          else if a then given σ x
          else if b then on_states (mk_spp (Rel.zero_at N)) σ
          else if c then o
          else if eqb (kind σ x) TOP && eqb (kind σ y) TOP then on_states mk_top σ
          else on_states (intern2 L SEQUENCE x y) σ

      go : (a : Bool) → is_relation σ.states.words y (Rel.one_at N) ≡ a → (b : Bool) → is_relation σ.states.words y (Rel.zero_at N) ≡ b → (c : Bool) → eqb (kind σ x) SEQUENCE ≡ c
          → body a b c (after (sequence_by N L d (second σ x) y σ) (sequence_by N L d (first σ x))) ≡ body a b c (after (chained d (second σ x) y σ) (chained d (first σ x)))
      go true p b q c r = refl
      go false p true q c r = refl
      go false p false q false r = refl
      go false p false q true r =
          let s : kind σ x ≡ SEQUENCE = eqb-true (kind σ x) SEQUENCE r in
          let t : Two σ x = parts g l s in
          ap (body false false true)
          (first_alone g l s m d (omega (arith, t.nested)) (chained d (first σ x)) (λ z τ k. chained_alone d (first σ x) z τ k)
          ∙ ap (λ (o : Outcome Aut ℕ). after o (chained d (first σ x))) (by_chained d g (omega (arith, t.earlier2)) m p q (omega (arith, t.nested))))
