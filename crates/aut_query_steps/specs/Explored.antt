-- `live_packets`, the walk: it visits the state asked for and every state that a list of a visited state leads to; each visited state's list is stored, and its set is that of the starts of its strings
-- without hops. It stops only when no state waits: each visit needs an entry, so as many visits as entries are enough.
use mathlib.Core.List.{List, Memᴰ}
use Rattle.std.specs.Prelude.{ℕ, ◌<◌}
use Rattle.netkat_steps.specs.ListSteps.{Edge}
use Rattle.aut_steps.specs.Wf.{states}
use Rattle.aut_delta_steps.specs.Delta.{count_of, Store, list_at}
use Rattle.aut_delta_steps.specs.Wf.{HasEpsilon}

-- ---- the walk

-- the list of s is stored, and its epsilon unless it is an SPP; the list leads to the states of `all`
pub record Linked (b : Store) (all : List ℕ) (s : ℕ) : Type 0 where
  pub known : s < states b.aut
  pub has_epsilon : HasEpsilon b.aut s
  pub marked : 0 < count_of b.aut.states.words s
  pub leads : (e : Edge) → Memᴰ e (list_at b s) → Memᴰ e.target all
