-- 02 (i), 01, "Lent tables": what the functions on columns of words 8 to 11 ask and promise. The states are the second words of n pending entries.
use Rattle.std.specs.Prelude.{◌≡◌, Bool, ℕ, ◌+◌, ◌*◌, ◌-◌, ◌<◌, ltb, length, get_or}
use mathlib.Core.List.{List, Memᴰ}
use Rattle.common.specs.Packets.{any}
use Rattle.netkat_steps.specs.ListSteps.{Edge}
use Rattle.aut_st_steps.specs.Edges.{edges}
use Rattle.aut_delta_steps.specs.Delta.{start_of, count_of}
use Rattle.aut_live_words.specs.Clauses.{Listed, PreKeep}
use Rattle.aut_why_words.specs.Words.{moved_at}
use Rattle.aut_why_marks.specs.Columns.{Writes, Before}

pub record PreFill (st p : List ℕ) (n w : ℕ) : Type 0 where
  pub states : PreKeep st p n
  pub word : w < 12

-- the round under work is now the round before
pub record Renews (ss st st' : List ℕ) : Type 0 where
  pub words : Writes Before ss st st'
  pub now : (x : ℕ) → Memᴰ x ss → get_or st' (12 * x + 8) 0 ≡ get_or st (12 * x + 9) 0
  pub marks : (x : ℕ) → Memᴰ x ss → get_or st' (12 * x + 11) 0 ≡ moved_at st x

pub record PreRestore (st p : List ℕ) (n from : ℕ) : Type 0 where
  pub states : PreKeep st p n
  pub source : from < 12
  pub apart : from ≡ 8 → ⊥

-- the round in words `from` is now the round before, and every set may have changed
pub record Restores (from : ℕ) (ss st st' : List ℕ) : Type 0 where
  pub words : Writes Before ss st st'
  pub now : (x : ℕ) → Memᴰ x ss → get_or st' (12 * x + 8) 0 ≡ get_or st (12 * x + from) 0
  pub marks : (x : ℕ) → Memᴰ x ss → get_or st' (12 * x + 11) 0 ≡ 1

-- the stored list of x leads to states
pub record PreChanged (st tr : List ℕ) (x : ℕ) : Type 0 where
  pub listed : Listed st tr x
  pub targets : (e : Edge) → Memᴰ e (edges tr (start_of st x) (count_of st x - 1)) → 12 * e.target + 11 < length st

-- some target has a word 11
abbrev pub changed_by : (st : List ℕ) → List Edge → Bool
changed_by st es = any (λ e. ltb 0 (get_or st (12 * e.target + 11) 0)) es

abbrev pub PostChanged : (st tr : List ℕ) → ℕ → Bool → Type 0
PostChanged st tr x r = r ≡ changed_by st (edges tr (start_of st x) (count_of st x - 1))
