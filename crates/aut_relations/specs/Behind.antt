-- Scratch as the steps on relations leave it: lists stand below word 1152, and behind them lies the cache, in which only right results are noted.
use Rattle.std.specs.Prelude.{◌≡◌, List, ℕ, ◌+◌, ◌≤◌, ◌<◌, length, get_or, drop}
use Rattle.common.specs.Runs.{Table}
use Rattle.cache.specs.Cache.{Valid, OnCodes, OnlyCodes, Sound, WritesValid}
use Rattle.spp_steps.specs.Wf.{Wf}
use Rattle.spp.specs.Reuse as Reuse

-- the words below are lists, those from here on the cache
abbrev pub LISTS : ℕ
LISTS = 1152

abbrev pub cached : List ℕ → List ℕ
cached s = drop LISTS s

-- what is read and what is noted in the cache, for N fields and the nodes t
abbrev pub Readable : ℕ → Table → Valid
Readable N t = OnCodes 3 9 (Reuse.Kept N t)

abbrev pub Notable : ℕ → Table → Valid
Notable N t = OnlyCodes 3 9 (Reuse.Kept N t)

-- s' is s but for the n words from a, and for results noted in the cache, which are right of the nodes t
pub record Modifies (N a n : ℕ) (t : Table) (s s' : List ℕ) : Type 0 where
  pub below : (i : ℕ) → i < a → get_or s' i 0 ≡ get_or s i 0
  pub above : (i : ℕ) → a + n ≤ i → i < LISTS → get_or s' i 0 ≡ get_or s i 0
  pub notes : WritesValid (Notable N t) (cached s) (cached s')

-- the nodes t are in order, and so is the cache
pub record CacheReady (N : ℕ) (t : Table) (s : List ℕ) : Type 0 where
  pub few : N ≤ 31
  pub wf : Wf N t
  pub room : LISTS ≤ length s
  pub sound : Sound (Readable N t) (cached s)
