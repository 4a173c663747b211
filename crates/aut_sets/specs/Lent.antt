-- 01, "Lent tables": all tables that are lent, for the queries: how the steps on packet sets see them, and what a call keeps of them.
use Rattle.std.specs.Prelude.{true, false}
use Rattle.spp_steps.specs.ImageModel.{Stores, stores}
use Rattle.aut_relations.specs.declared.Aut.{Aut as Lent}
pub use Rattle.aut_relations.specs.Lent.{sets_in}
use Rattle.aut_relations.specs.Lent.{nodes_in, KeepsBut}

abbrev pub diagrams_in : Lent → Stores
diagrams_in x = stores (sets_in x) (nodes_in x)

-- ---- what a call keeps: x before, y after

-- scratch is written
abbrev pub OnlyScratch : Lent → Lent → Type 0
OnlyScratch x y = KeepsBut (record { sp = false; spp = false; states = false; count = false; members = false; transitions = false; pending = false; scratch = true }) x y

-- packet nodes and scratch
abbrev pub OnlySets : Lent → Lent → Type 0
OnlySets x y = KeepsBut (record { sp = true; spp = false; states = false; count = false; members = false; transitions = false; pending = false; scratch = true }) x y

-- words of states, and pending entries
abbrev pub OnlyMarks : Lent → Lent → Type 0
OnlyMarks x y = KeepsBut (record { sp = false; spp = false; states = true; count = false; members = false; transitions = false; pending = true; scratch = false }) x y

-- packet nodes, words of states, pending entries and scratch
abbrev pub OnlySearch : Lent → Lent → Type 0
OnlySearch x y = KeepsBut (record { sp = true; spp = false; states = true; count = false; members = false; transitions = false; pending = true; scratch = true }) x y

-- all tables
abbrev pub SameLent : Lent → Lent → Type 0
SameLent x y = KeepsBut (record { sp = true; spp = true; states = true; count = true; members = true; transitions = true; pending = true; scratch = true }) x y
