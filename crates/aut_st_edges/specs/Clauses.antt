-- 01, "Lent tables": a transition is 2 words, target and label; record i of a slice is its words 2 i and 2 i + 1. What the functions on lists in a slice ask and leave.
use Rattle.std.specs.Prelude.{◌≡◌, List, Option, Some, None, ◌⊎◌, ℕ, ◌+◌, ◌*◌, ◌/◌, ◌≤◌, ◌<◌, length}
use Rattle.netkat_steps.specs.ListSteps.{Edge, edge}
use Rattle.aut_steps.specs.Scratch.{Kept}
use Rattle.aut_st_steps.specs.Edges.{edges}
use Rattle.aut_st_steps.specs.Places.{seek_target}
use Rattle.aut_st_edges.specs.declared.Transition.{Transition}

abbrev pub edge_of : Transition → Edge
edge_of t = edge t.target t.label.0

-- the transitions of a slice
abbrev pub listed : List ℕ → List Edge
listed s = edges s 0 (length s / 2)

-- the first to x was found, or there is none
abbrev pub Finds : ℕ → List Edge → Option ℕ → Type 0
Finds x es (Some i) = (seek_target x es ≡ i) × (i < length es)
Finds x es None = seek_target x es ≡ length es

-- the place o among k transitions was found
pub record Seeks (o k r : ℕ) : Type 0 where
  pub is : o ≡ r
  pub few : r ≤ k

-- the k records from `at` on are now es, and all else is as it was
pub record Wrote (at k : ℕ) (es : List Edge) (s s' : List ℕ) : Type 0 where
  pub is : edges s' at k ≡ es
  pub kept : Kept (2 * at) (2 * k) s s'

-- k records at `from` and at `to`, apart from each other
pub record CopyReady (s : List ℕ) (from k to : ℕ) : Type 0 where
  pub source : 2 * (from + k) ≤ length s
  pub room : 2 * (to + k) ≤ length s
  pub apart : (from + k ≤ to) ⊎ (to + k ≤ from)
