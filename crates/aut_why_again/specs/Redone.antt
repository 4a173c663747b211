-- 02 (i), "Picking makes no nodes": rounds that stand are worked out again; only words 8 to 11 of their states, and the cache, are written.
use Rattle.std.specs.Prelude.{◌≡◌, ℕ, ◌+◌, ◌*◌, ◌-◌, ◌≤◌, ◌<◌, length, get_or, set}
use mathlib.Core.List.{List, Memᴰ}
use Rattle.aut_query_steps.specs.Tables.{Tables}
use Rattle.aut_query_stage.specs.Lent.{Leaves}
use Rattle.aut_states.specs.declared.Limits.{Limits}
use Rattle.aut_free.specs.Clear.{clear_tables}
use Rattle.aut_live_words.specs.Work.{seconds}
use Rattle.aut_why_steps.specs.Why.{Sets, round_at}
use Rattle.aut_why_words.specs.Walk.{HasSets, Standing}
use Rattle.aut_query_calls.specs.Working.{words_in, with_words}
use Rattle.aut_why_marks.specs.Columns.{Writes}

-- the words that are written: all that are free, and those but the round that is kept
abbrev pub Free : ℕ → Type 0
Free w = 8 ≤ w

abbrev pub Unkept : ℕ → Type 0
Unkept w = (8 ≤ w) × (w ≡ 10 → ⊥)

-- from the tables σ to τ: no node is made; of the states ss the words W are written, and no other word of the tables
pub record Redone (N : ℕ) (W : ℕ → Type 0) (ss : List ℕ) (σ τ : Tables) (s s' : List ℕ) : Type 0 where
  pub tables : τ ≡ with_words (words_in τ) σ
  pub words : Writes W ss (words_in σ) (words_in τ)
  pub frame : Leaves N 0 0 (clear_tables σ) s s'
  pub len : length s' ≡ length s

-- .. of the state x word w alone, which is the set h
pub record Worked (N w x h : ℕ) (σ τ : Tables) (s s' : List ℕ) : Type 0 where
  pub tables : τ ≡ with_words (set (words_in σ) (12 * x + w) (h + 1)) σ
  pub frame : Leaves N 0 0 (clear_tables σ) s s'
  pub len : length s' ≡ length s

-- Words 8 have the sets of round k. Where a word 11 is 0, the set is that of the round before.
pub record AtRound (N : ℕ) (st p : List ℕ) (n : ℕ) (ws : List Sets) (k : ℕ) : Type 0 where
  pub sets : HasSets 8 st p n (round_at N ws k)
  pub marks : (x : ℕ) → Memᴰ x (seconds p 0 n) → get_or st (12 * x + 11) 0 ≡ 0 → (0 < k) × (round_at N ws (k - 1) x ≡ round_at N ws k x)

-- the rounds ws stand, and this is round k
pub record OnRound (N : ℕ) (l : Limits) (σ : Tables) (s p : List ℕ) (n : ℕ) (ws : List Sets) (k : ℕ) : Type 0 where
  pub standing : Standing N l σ s p n ws
  pub here : AtRound N (words_in σ) p n ws k
