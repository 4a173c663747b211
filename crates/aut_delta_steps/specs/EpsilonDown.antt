-- 01, "Lent tables": word 4 of a state is 0 while its epsilon is not worked out. So the tables say where a run of `epsilon` goes first: from a state to its first operand that is not worked out, and on
-- until all operands are. To work that state out first, and then the one that was asked for, comes to the same: store, value and refusal. So a run may hold nothing over a call.
use Rattle.std.specs.Prelude.{◌≡◌, List, ◌∷◌, ℕ, ◌<◌}
use Rattle.aut_steps.specs.Tables.{SPP, kind_of}
use Rattle.aut_steps.specs.Ascending.{All}
use Rattle.aut_delta_steps.specs.Epsilon.{epsilon_of}
use Rattle.aut_delta_steps.specs.EpsilonReads.{operands_of}

-- ---- the way down

-- a relation, or a state whose word 4 is marked
abbrev pub Known : List ℕ → ℕ → Type 0
Known st x = (kind_of st x ≡ SPP → ⊥) → 0 < epsilon_of st x

-- .. and one that is not worked out
abbrev pub Open : List ℕ → ℕ → Type 0
Open st x = (kind_of st x ≡ SPP → ⊥) × (epsilon_of st x ≡ 0)

-- z is the first of a list of which O holds; of those before it K holds
pub data First (K O : ℕ → Type 0) (z : ℕ) : List ℕ → Type 0 where
  this : {ys : List ℕ} → O z → First K O z (z ∷ ys)
  later : {y : ℕ} {ys : List ℕ} → K y → First K O z ys → First K O z (y ∷ ys)

-- .. that is not worked out
abbrev pub FirstOpen : List ℕ → ℕ → List ℕ → Type 0
FirstOpen st z = First (Known st) (Open st) z

-- from x down along first operands that are not worked out, to y, of which all are
pub data Way (st mem : List ℕ) (y : ℕ) : ℕ → Type 0 where
  bottom : Open st y → All (Known st) (operands_of st mem y) → Way st mem y y
  down : {x z : ℕ} → Open st x → FirstOpen st z (operands_of st mem x) → Way st mem y z → Way st mem y x
