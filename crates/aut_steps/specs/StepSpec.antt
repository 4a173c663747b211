-- What a step on tables in order leaves: a refusal with its reason, or tables that have grown and are in order, with words 4 to 11 of every state as they were,
-- and something of its answer. And a new state: what has to hold of it, so that the tables stay in order.
use Rattle.std.specs.Prelude.{◌≡◌, ℕ, ◌+◌, ◌*◌, ◌≤◌, ◌<◌, get_or}
use Rattle.aut_steps.specs.Tables.{Limits, Aut}
use Rattle.aut_steps.specs.Wf.{ExtAut, WfAut}

-- words 4 to 11 of every state are as they were
abbrev pub Memos : Aut → Aut → Type 0
Memos σ τ = (i w : ℕ) → 4 ≤ w → w < 12 → get_or τ.states.words (12 * i + w) 0 ≡ get_or σ.states.words (12 * i + w) 0

-- The step from σ has given τ and a.
pub record Gone (N : ℕ) (L : Limits) {A : Type 0} (P : Aut → A → Type 0) (σ τ : Aut) (a : A) : Type 0 where
  pub grown : ExtAut σ τ
  pub memos : Memos σ τ
  pub good : WfAut N L τ
  pub holds : P τ a
