-- 02 (i), and 01, "Lent tables": while `why` runs, the states reached stand in the second words of the pending entries, in the order of the visits, and words 8 to 11 of these states hold sets (+ 1) of a round.
use Rattle.std.specs.Prelude.{◌≡◌, ℕ, ◌+◌, ◌*◌, ◌/◌, ◌≤◌, ◌<◌, length, get_or}
use mathlib.Core.List.{List, Memᴰ}
use Rattle.aut_query_steps.specs.Tables.{Tables}
use Rattle.aut_query_steps.specs.Search.{capacity}
use Rattle.aut_query_steps.specs.Explored.{Linked}
use Rattle.aut_why_steps.specs.Why.{Sets, Again}
use Rattle.aut_states.specs.declared.Limits.{Limits}
use Rattle.aut_free.specs.Clear.{clear_tables}
use Rattle.aut_live_words.specs.Working.{Working}
use Rattle.aut_live_words.specs.Work.{seconds}

-- n states are reached; each has its list and its epsilon; words 8 to 11 of other states are 0
pub record Walk (N : ℕ) (l : Limits) (σ : Tables) (s p : List ℕ) (n : ℕ) : Type 0 where
  pub working : Working N l σ s
  pub links : (x : ℕ) → Memᴰ x (seconds p 0 n) → Linked (clear_tables σ).base (seconds p 0 n) x
  pub rest : (x w : ℕ) → 8 ≤ w → w < 12 → (Memᴰ x (seconds p 0 n) → ⊥) → get_or σ.base.aut.states.words (12 * x + w) 0 ≡ 0
  pub first : (i : ℕ) → get_or p (2 * i) 0 ≡ 0
  pub after : (i : ℕ) → n ≤ i → get_or p (2 * i + 1) 0 ≡ 0
  pub room : n ≤ capacity (length p / 2)

-- word w of the n states has these sets, + 1
pub record HasSets (w : ℕ) (st p : List ℕ) (n : ℕ) (sets : Sets) : Type 0 where
  pub is : (x : ℕ) → Memᴰ x (seconds p 0 n) → get_or st (12 * x + w) 0 ≡ sets x + 1

-- the rounds ws of these states have been worked out, and stand
pub record Standing (N : ℕ) (l : Limits) (σ : Tables) (s p : List ℕ) (n : ℕ) (ws : List Sets) : Type 0 where
  pub walk : Walk N l σ s p n
  pub again : Again N (seconds p 0 n) (clear_tables σ) ws
