-- 01, port order, step 3 (ST operations): the lists that are walked are stored transitions, or stand in scratch behind those that an insertion writes.
use Rattle.std.specs.Prelude.{List, ℕ, ◌+◌, ◌*◌, ◌≤◌, ◌<◌, length, get_or}
use Rattle.netkat_steps.specs.ListSteps.{Edge, edge}
use Rattle.aut_steps.specs.Tables.{Aut}
use Rattle.aut_st_steps.specs.Edges.{edges, EdgesAt}
use Rattle.aut_st_insert.specs.Clauses.{FIRST, END}
use Rattle.aut_st_source.specs.declared.Place.{Place}
use Rattle.aut_st_source.specs.declared.Place.TheVariants as place
use Rattle.aut_st_source.specs.declared.Source.{Source}

-- ---- places

abbrev pub edges_at : Place → List ℕ → List ℕ → ℕ → List Edge
edges_at (place.Stored a) tr s k = edges tr a k
edges_at (place.Scratch a) tr s k = edges s a k

abbrev pub entry_at : Place → List ℕ → List ℕ → ℕ → Edge
entry_at (place.Stored a) tr s i = edge (get_or tr (2 * (a + i)) 0) (get_or tr (2 * (a + i) + 1) 0)
entry_at (place.Scratch a) tr s i = edge (get_or s (2 * (a + i)) 0) (get_or s (2 * (a + i) + 1) 0)

abbrev pub InAt : List ℕ → List ℕ → Place → ℕ → Type 0
InAt tr s (place.Stored a) i = 2 * (a + i) + 1 < length tr
InAt tr s (place.Scratch a) i = 2 * (a + i) + 1 < length s

-- stored, or from FIRST on, where no insertion writes
abbrev pub WithinAt : List ℕ → Place → ℕ → Type 0
WithinAt tr (place.Stored a) k = 2 * (a + k) ≤ length tr
WithinAt tr (place.Scratch a) k = (FIRST ≤ a) × (a + k ≤ END)

-- ---- the lists that are walked

-- a stored one, one in scratch
abbrev pub stored : ℕ → ℕ → Source
stored a k = record { place = place.Stored a; length = k }

abbrev pub scratched : ℕ → ℕ → Source
scratched a k = record { place = place.Scratch a; length = k }

-- its transitions; its transition i
abbrev pub source_of : Source → List ℕ → List ℕ → List Edge
source_of x tr s = edges_at x.place tr s x.length

abbrev pub entry_of : Source → List ℕ → List ℕ → ℕ → Edge
entry_of x tr s i = entry_at x.place tr s i

abbrev pub EntryIn : List ℕ → List ℕ → Source → ℕ → Type 0
EntryIn tr s x i = InAt tr s x.place i

abbrev pub Within : List ℕ → Source → Type 0
Within tr x = WithinAt tr x.place x.length

pub record Walked (N : ℕ) (σ : Aut) (tr s : List ℕ) (x : Source) : Type 0 where
  pub within : Within tr x
  pub edges : EdgesAt N σ (source_of x tr s)
