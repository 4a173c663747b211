-- 02 (ii): "unless working out live sets again makes it meet 20 or 24": how the packet nodes of the two runs stand to each other. `apart`: nothing is said. `beside`: they are the same, and a live set that the second has stored the
-- first has under the same handle. `whole`: and each that the first has stored the second has. As long as they are beside each other it meets neither number.
use Rattle.std.specs.Prelude.{ℕ}

pub data Mode : Type 0 where
  apart beside whole : Mode

-- packet nodes go in step
abbrev pub InStep : Mode → Type 0
InStep apart = ⊥
InStep beside = Unit
InStep whole = Unit

abbrev pub Whole : Mode → Type 0
Whole apart = ⊥
Whole beside = ⊥
Whole whole = Unit

pub data Allowed (mode : Mode) : ℕ → Type 0 where
  no_node : (InStep mode → ⊥) → Allowed mode 20
  no_entry : (InStep mode → ⊥) → Allowed mode 24
