-- 01, "Lent tables": word 6 of a state is 0 while its list is not stored. So the tables say where a run of `delta` goes first: from a state to its first operand that has no list, and on until all operands have one.
-- To enter the states of this way (epsilon and star of first operands, in the Rust's order before the operands' lists), then to work out the list at its end, and then the state's own, comes to the same: store, list and refusal.
use Rattle.std.specs.Prelude.{◌≡◌, List, [], ◌∷◌, ℕ, ◌<◌}
use Rattle.common.specs.Outcome.{Step}
use Rattle.aut_steps.specs.Ascending.{All}
use Rattle.aut_delta_steps.specs.Delta.{count_of, Store}
use Rattle.aut_delta_steps.specs.EpsilonReads.{work_all}
use Rattle.aut_delta_steps.specs.EpsilonDown.{First}
use Rattle.aut_delta_steps.specs.DeltaReads.{list_operands, enter}

-- ---- the way down

abbrev pub Has : Store → ℕ → Type 0
Has σ x = 0 < count_of σ.aut.states.words x

abbrev pub HasNot : Store → ℕ → Type 0
HasNot σ x = count_of σ.aut.states.words x ≡ 0

-- from x down along first operands that have no list, to y, of which all have one; the states above y
pub data ListWay (σ : Store) (y : ℕ) : List ℕ → ℕ → Type 0 where
  bottom : HasNot σ y → All (Has σ) (list_operands σ y) → ListWay σ y [] y
  down : {x z : ℕ} {xs : List ℕ} → HasNot σ x → First (Has σ) (HasNot σ) z (list_operands σ x) → ListWay σ y xs z → ListWay σ y (x ∷ xs) x

-- the states above it are entered
abbrev pub enters : ℕ → List ℕ → Step Store Unit
enters N xs = work_all (enter N) xs
