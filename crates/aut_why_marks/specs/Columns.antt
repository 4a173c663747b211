-- 01, "Lent tables": while a query runs, words 8 to 11 of the states hold what it works on. Word w of each of some states is a column; what it is to write columns of these states and nothing else.
use Rattle.std.specs.Prelude.{◌≡◌, ◌⊎◌, ℕ, ◌+◌, ◌*◌, ◌<◌, length, get_or}
use mathlib.Core.List.{List, Memᴰ}

-- of the states ss the words W are written, and no other word
pub record Writes (W : ℕ → Type 0) (ss st st' : List ℕ) : Type 0 where
  pub others : (x w : ℕ) → w < 12 → (W w → Memᴰ x ss → ⊥) → get_or st' (12 * x + w) 0 ≡ get_or st (12 * x + w) 0
  pub len : length st' ≡ length st

-- words w of the states ss are f's
pub record Fills (w : ℕ) (f : ℕ → ℕ) (ss st st' : List ℕ) : Type 0 where
  pub is : (x : ℕ) → Memᴰ x ss → get_or st' (12 * x + w) 0 ≡ f x
  pub words : Writes (λ v. v ≡ w) ss st st'

-- words 8, the round before, and words 11, where it changed
abbrev pub Before : ℕ → Type 0
Before w = (w ≡ 8) ⊎ (w ≡ 11)
