-- Computed rows: what a definition comes to in one case, and what it is expected to come to; and that all rows of a table hold. Said once, for
-- results of every type.
use Rattle.std.specs.Prelude.{◌≡◌, List, [], ◌∷◌}
use Rattle.common.specs.Outcome.{Outcome, Step}

pub record Row : Type 1 where
  pub Result : Type 0
  pub computed : Result
  pub expected : Result

abbrev pub row : {A : Type 0} → A → A → Row
row {A} c e = record { Result = A; computed = c; expected = e }

-- a step from a store, and its outcome
abbrev pub from : {Store A : Type 0} → Store → Step Store A → Outcome Store A → Row
from σ step o = row (step σ) o

-- every row holds
abbrev pub Hold : List Row → Type 0
Hold [] = Unit
Hold (r ∷ rs) = (r.computed ≡ r.expected) × Hold rs
