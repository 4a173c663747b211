-- All tables that a query works on as a layer of the rule for a run of calls (aut_stage): packet nodes beside the store of delta and epsilon, word 7 of the states, and a cache in which packet sets,
-- images, relations and numbers are noted. Words 8 to 11 of the states are free while a query runs; the layer's store has them as 01 has them at rest: 0.
use Rattle.std.specs.Prelude.{◌≡◌, List, ℕ, ◌+◌, ◌*◌, ◌≤◌, ◌<◌, get_or}
use Rattle.cache.specs.Cache.{OnCodes, Sound}
use Rattle.spp_image.specs.Reuse.{Held, Counted}
use Rattle.aut_steps.specs.Wf.{states}
use Rattle.aut_query_steps.specs.Tables.{Tables, diagrams, WfTables}
use Rattle.aut_states.specs.Clauses.{limits_of}
use Rattle.aut_states.specs.declared.Limits.{Limits}
use Rattle.aut_relations.specs.Behind as Behind
use Rattle.aut_relations.specs.Behind.{cached}
use Rattle.aut_relations.specs.Clauses.{Ready}

-- ---- the cache

-- to read: valid of relations' codes, of packet sets' and images' codes, and of numbers of pairs
pub record Readable (N : ℕ) (σ : Tables) (op x y r : ℕ) : Type 0 where
  pub relations : Behind.Readable N σ.base.aut.nodes op x y r
  pub images : Held N (diagrams σ) op x y r
  pub numbers : OnCodes 17 17 (Counted σ.base.aut.nodes) op x y r

-- ---- tables and scratch in order for a query, and after it

-- words 8 to 11 of every state are 0
abbrev pub Resting : List ℕ → Type 0
Resting st = (x w : ℕ) → 8 ≤ w → w < 12 → get_or st (12 * x + w) 0 ≡ 0

pub record QueryReady (N : ℕ) (l : Limits) (σ : Tables) (s : List ℕ) : Type 0 where
  pub ready : Ready N l σ.base.aut s
  pub ordered : WfTables N (limits_of l) σ
  pub limit : l.transitions ≤ 64
  pub sound : Sound (Readable N σ) (cached s)
  pub resting : Resting σ.base.aut.states.words

-- ---- what a query asks

-- every word is 0
abbrev pub Zeroed : List ℕ → Type 0
Zeroed p = (j : ℕ) → get_or p j 0 ≡ 0

-- tables, scratch and pending entries as a query finds them; x is a state
pub record PreQuery (N : ℕ) (l : Limits) (σ : Tables) (s p : List ℕ) (x : ℕ) : Type 0 where
  pub ready : QueryReady N l σ s
  pub pending : Zeroed p
  pub has : x < states σ.base.aut
