-- The lists of the members of a Union and of an Intersect.
use Rattle.std.specs.Prelude.{List, map, ℕ}
use Rattle.netkat_steps.specs.ListSteps.{Edge}
use Rattle.aut_steps.specs.Tables.{words}
use Rattle.aut_delta_steps.specs.Delta.{Store, list_at}

-- of the k members at `from`
abbrev pub lists_at : Store → ℕ → ℕ → List (List Edge)
lists_at σ from k = map (list_at σ) (words σ.aut.members.words from k)
