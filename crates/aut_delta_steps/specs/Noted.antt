-- 01, "Lent tables": words 4 to 7 of a state are 0 while not worked out. What is written there leaves the tables in order and every state what it stands for:
-- one word at a time, and as a run of epsilon leaves them (only words 4 are written, each at most once).
use Rattle.std.specs.Prelude.{◌≡◌, ◌≢◌, ℕ, ◌+◌, ◌*◌, ◌≤◌, ◌<◌, length, get_or}
use Rattle.spp_steps.specs.Wf.{Ext}
use Rattle.aut_steps.specs.Tables.{Aut}
use Rattle.aut_steps.specs.Wf.{states}
use Rattle.aut_delta_steps.specs.Epsilon.{epsilon_of}

-- ---- what a run of epsilon leaves

-- Only words 4 of states are written, and none that was worked out; relation nodes may be new.
pub record Noted (σ τ : Aut) : Type 0 where
  pub nodes : Ext σ.nodes τ.nodes
  pub members : τ.members ≡ σ.members
  pub count : states τ ≡ states σ
  pub len : length τ.states.words ≡ length σ.states.words
  pub words : (i w : ℕ) → w < 12 → w ≢ 4 → get_or τ.states.words (12 * i + w) 0 ≡ get_or σ.states.words (12 * i + w) 0
  pub beyond : (j : ℕ) → 12 * states σ ≤ j → get_or τ.states.words j 0 ≡ get_or σ.states.words j 0
  pub kept : (i : ℕ) → 0 < epsilon_of σ.states.words i → epsilon_of τ.states.words i ≡ epsilon_of σ.states.words i
