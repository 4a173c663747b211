-- 01, "Lent tables": words 0 to 6 of a state are what constructors, epsilon and delta keep; word 7 is a live set, words 8 to 11 are a query's while it runs. Tables that are alike differ in words 7 to 11 only;
-- runs are alike that are refused with one number, or give one value and alike tables. No table has to be in order.
use mathlib.Core.Path.{◌≡◌}
use mathlib.Core.List.{List}
use Prim.Native.Nat.{ℕ, ◌+◌, ◌*◌, ◌≤◌, ◌<◌}
use lib.ListN.{length, get_or}
use Rattle.common.specs.Outcome.{Outcome, refused, given, Step}
use Rattle.common.specs.Runs.{Table}
use Rattle.aut_steps.specs.Tables.{Exprs, Aut}
use Rattle.aut_delta_steps.specs.Delta.{Store}

-- ---- tables

-- s has words 7 to 11 of every state as f has them: they are not written
pub record Framed (f s : List ℕ) : Type 0 where
  pub len : length s ≡ length f
  pub words : (x w : ℕ) → 7 ≤ w → w < 12 → get_or s (12 * x + w) 0 ≡ get_or f (12 * x + w) 0

-- words 0 to 6 are the same; words 7 to 11 of the first are those of f, of the second those of g
pub record AlikeWords (f g s t : List ℕ) : Type 0 where
  pub len : length s ≡ length t
  pub same : (x w : ℕ) → w < 7 → get_or s (12 * x + w) 0 ≡ get_or t (12 * x + w) 0
  pub left : Framed f s
  pub right : Framed g t

pub record AlikeStates (f g : List ℕ) (s t : Table) : Type 0 where
  pub words : AlikeWords f g s.words t.words
  pub count : s.count ≡ t.count

pub record AlikeExprs (f g : List ℕ) (σ τ : Exprs) : Type 0 where
  pub states : AlikeStates f g σ.states τ.states
  pub members : σ.members ≡ τ.members

pub record AlikeAut (f g : List ℕ) (σ τ : Aut) : Type 0 where
  pub nodes : σ.nodes ≡ τ.nodes
  pub states : AlikeStates f g σ.states τ.states
  pub members : σ.members ≡ τ.members

pub record AlikeStore (f g : List ℕ) (σ τ : Store) : Type 0 where
  pub aut : AlikeAut f g σ.aut τ.aut
  pub transitions : σ.transitions ≡ τ.transitions

-- ---- runs

-- both refused with one number, or both given with one value and stores that R relates
pub data AlikeRuns {S A : Type 0} (R : S → S → Type 0) : Outcome S A → Outcome S A → Type 0 where
  stops : {number : ℕ} → AlikeRuns R (refused number) (refused number)
  comes : {σ τ : S} {a : A} → R σ τ → AlikeRuns R (given σ a) (given τ a)

-- from stores that R relates a step has alike runs
abbrev pub Respects : {S A : Type 0} → (S → S → Type 0) → Step S A → Type 0
Respects {S} R c = (σ τ : S) → R σ τ → AlikeRuns R (c σ) (c τ)
