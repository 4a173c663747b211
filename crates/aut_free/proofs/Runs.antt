-- How to follow a step on two stores: past a `>>=`, into a test, on a part of the store. Assumes nothing.
use Rattle.std.specs.Prelude.{if◌then◌else◌}
use mathlib.Core.Path.{◌≡◌, subst}
use mathlib.Core.Bool.{Bool, true, false}
use mathlib.Core.List.{List, [], ◌∷◌}
use Prim.Native.Nat.{ℕ}
use Rattle.common.specs.Outcome.{Outcome, given, Step, return, after, ◌>>=◌}
use Rattle.common.specs.Runs.{placed}
use Rattle.aut_delta_steps.specs.Epsilon.{each_of}
use Rattle.aut_free.proofs.Alike.{AlikeRuns, stops, comes, Respects}

-- ---- outcomes

pub alike_bind : {S A B : Type 0} {R : S → S → Type 0} {o p : Outcome S A} {k j : A → Step S B} → AlikeRuns R o p → ((σ τ : S) (a : A) → R σ τ → AlikeRuns R (k a σ) (j a τ)) → AlikeRuns R (after o k) (after p j)
alike_bind stops f = stops
alike_bind (comes {σ} {τ} {a} r) f = f σ τ a r

pub alike_placed : {S B A : Type 0} {R : S → S → Type 0} {Q : B → B → Type 0} (put : S → B → B) (β γ : B) {o p : Outcome S A} → AlikeRuns R o p → ((s t : S) → R s t → Q (put s β) (put t γ))
    → AlikeRuns Q (placed put β o) (placed put γ p)
alike_placed put β γ stops f = stops
alike_placed put β γ (comes {σ} {τ} r) f = comes (f σ τ r)

pub alike_wider : {S A : Type 0} {R Q : S → S → Type 0} {o p : Outcome S A} → AlikeRuns R o p → ((s t : S) → R s t → Q s t) → AlikeRuns Q o p
alike_wider stops f = stops
alike_wider (comes {σ} {τ} r) f = comes (f σ τ r)

module _ {S A : Type 0} {R : S → S → Type 0} where
  pub alike_given : {σ τ : S} {a b : A} → R σ τ → a ≡ b → AlikeRuns R (given σ a) (given τ b)
  alike_given {σ} {τ} {a} r e = subst (λ (c : A). AlikeRuns R (given σ a) (given τ c)) e (comes r)

  pub alike_when : (b : Bool) {o p o' p' : Outcome S A} → AlikeRuns R o p → AlikeRuns R o' p' → AlikeRuns R (if b then o else o') (if b then p else p')
  alike_when true y n = y
  alike_when false y n = n

  -- tests that are equal
  pub alike_if : {b c : Bool} {o p o' p' : Outcome S A} → b ≡ c → AlikeRuns R o p → AlikeRuns R o' p' → AlikeRuns R (if b then o else o') (if c then p else p')
  alike_if {b} {o = o} {p = p} {o' = o'} {p' = p'} e y n = subst (λ (d : Bool). AlikeRuns R (if b then o else o') (if d then p else p')) e (alike_when b y n)

  -- ---- steps

  -- two steps that are equal, of which one has alike runs
  pub along : {c d : Step S A} → c ≡ d → Respects R c → (σ τ : S) → R σ τ → AlikeRuns R (c σ) (d τ)
  along {c} e h σ τ r = subst (λ (k : Step S A). AlikeRuns R (c σ) (k τ)) e (h σ τ r)

  -- a step that takes what is read, which is equal
  pub reading : {X : Type 0} {body : X → Step S A} → ((x : X) → Respects R (body x)) → {x y : X} → x ≡ y → (σ τ : S) → R σ τ → AlikeRuns R (body x σ) (body y τ)
  reading {X} {body} h {x} e σ τ r = subst (λ (y : X). AlikeRuns R (body x σ) (body y τ)) e (h x σ τ r)

  pub returns : (a : A) → Respects R (return a)
  returns a σ τ r = comes r

  pub test : (b : Bool) {c d : Step S A} → Respects R c → Respects R d → Respects R (if b then c else d)
  test true p q = p
  test false p q = q

  pub bind : {B : Type 0} {c : Step S A} {k : A → Step S B} → Respects R c → ((a : A) → Respects R (k a)) → Respects R (c >>= k)
  bind p q σ τ r = alike_bind (p σ τ r) (λ σ₁ τ₁ a r₁. q a σ₁ τ₁ r₁)

-- ---- a step for each element of a list

module _ {S A : Type 0} {R : S → S → Type 0} where
  pub each_of_respects : {one : ℕ → Step S A} → ((x : ℕ) → Respects R (one x)) → (xs : List ℕ) → Respects R (each_of one xs)
  unfolding each_of
  each_of_respects h [] = returns []
  each_of_respects h (x ∷ xs) = bind (h x) (λ a. bind (each_of_respects h xs) (λ l. returns (a ∷ l)))
