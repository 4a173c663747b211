-- What holds of the definitions of specs/Meaning.
use mathlib.Core.List.{List, [], ◌∷◌, ◌++◌}
use mathlib.Core.Option.{Option, none, some}
use Prim.Native.Nat.{ℕ}
use Rattle.netkat.specs.Rules.{Rule}
use Rattle.book_construct_steps.specs.Lines.{means}
use Rattle.book_steps.specs.Reader as Reader
use Rattle.book_steps.specs.Reader.{Resolved}

-- what a line that is not refused adds: a constructor line its rule, a query nothing
abbrev pub noted : {N : ℕ} → List (Option (Rule N)) → Resolved (Rule N) → List (Option (Rule N))
noted R (Reader.makes l) = R ++ some (means (λ r. r) l) ∷ []
noted R (Reader.asks q a r) = R ++ none ∷ []
noted R (Reader.refuses e) = R
