-- 02 (ii): an image has the relation nodes, members and states (words 0 to 3) of a book's tables. Tables with the same records, in words of the same number: what a line's constructor reads and makes of them is the same. Of words
-- 4 to 11 of states, what was worked out, nothing is said.
use Rattle.std.specs.Prelude.{◌≡◌, ℕ, ◌+◌, ◌*◌, ◌<◌, length, get_or}
use Rattle.aut_steps.specs.Tables.{Aut}
use Rattle.aut_steps.specs.Wf.{states}

pub record SameRecords (σ τ : Aut) : Type 0 where
  pub nodes : σ.nodes ≡ τ.nodes
  pub members : σ.members ≡ τ.members
  pub count : states σ ≡ states τ
  pub len : length σ.states.words ≡ length τ.states.words
  pub words : (x w : ℕ) → w < 4 → get_or σ.states.words (12 * x + w) 0 ≡ get_or τ.states.words (12 * x + w) 0
