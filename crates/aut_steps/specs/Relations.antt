-- What the automaton layer takes over from the relations (spp.rs): the operations and constants of N fields at the root.
use Rattle.std.specs.Prelude.{ℕ}
use Rattle.common.specs.Packets.{Relation}
use Rattle.common.specs.Outcome.{Step}
use Rattle.common.specs.Runs.{Table}
use Rattle.spp_steps.specs.Model as Spp

module _ (N : ℕ) where
  abbrev pub union : ℕ → ℕ → Step Table ℕ
  union a b = Spp.apply N Spp.union N a b

  abbrev pub intersect : ℕ → ℕ → Step Table ℕ
  intersect a b = Spp.apply N Spp.intersect N a b

  abbrev pub xor : ℕ → ℕ → Step Table ℕ
  xor a b = Spp.apply N Spp.xor N a b

  abbrev pub difference : ℕ → ℕ → Step Table ℕ
  difference a b = Spp.apply N Spp.difference N a b

  abbrev pub sequence : ℕ → ℕ → Step Table ℕ
  sequence a b = Spp.sequence N N a b

  abbrev pub star : ℕ → Step Table ℕ
  star a = Spp.star N N a

  abbrev pub zero_at : ℕ
  zero_at = Spp.zero_at N N

  abbrev pub one_at : ℕ
  one_at = Spp.one_at N N

  abbrev pub top_at : ℕ
  top_at = Spp.top_at N N

  -- the pairs of a handle
  abbrev pub pairs : Table → ℕ → Relation N
  pairs t h = Spp.mem t.words N h
