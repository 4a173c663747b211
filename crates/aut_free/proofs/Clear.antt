-- What holds of the definitions of specs/Clear.
use mathlib.Core.Path.{◌≡◌}
use mathlib.Core.List.{List}
use Prim.Native.Nat.{ℕ, ◌+◌, ◌*◌, ◌≤◌, ◌<◌}
use lib.ListN.{length, get_or, set}
use Rattle.common.specs.Outcome.{Outcome, refused, given}
use Rattle.aut_steps.specs.Tables.{Aut}
use Rattle.aut_delta_steps.specs.Delta.{Store}
use Rattle.aut_free.proofs.Alike.{Framed}
use Rattle.aut_free.specs.Clear.{in_aut, in_store, clear}

-- what a run comes to, with its store changed
abbrev pub cleared : {S A : Type 0} → (S → S) → Outcome S A → Outcome S A
cleared f (refused number) = refused number
cleared f (given σ a) = given (f σ) a

-- φ changes words 7 to 11 of states only, and what it puts there depends on these only
pub record Beyond (φ : List ℕ → List ℕ) : Type 0 where
  pub len : (s : List ℕ) → length (φ s) ≡ length s
  pub same : (s : List ℕ) (x w : ℕ) → w < 7 → get_or (φ s) (12 * x + w) 0 ≡ get_or s (12 * x + w) 0
  pub framed : (f s : List ℕ) → Framed f s → Framed (φ f) (φ s)

-- one of these words is written
abbrev pub writing : ℕ → ℕ → ℕ → List ℕ → List ℕ
writing x w v s = set s (12 * x + w) v

abbrev pub clear_aut : Aut → Aut
clear_aut σ = in_aut clear σ

abbrev pub clear_store : Store → Store
clear_store σ = in_store clear σ

-- every state's words 8 to 11 are 0
abbrev pub AtRest : List ℕ → Type 0
AtRest st = (x w : ℕ) → 8 ≤ w → w < 12 → get_or st (12 * x + w) 0 ≡ 0
