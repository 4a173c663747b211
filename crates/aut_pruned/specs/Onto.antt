-- 01, "Strings" (pruned): the step that cuts the labels of a list, with the list of those kept so far, as a loop has it.
use Rattle.std.specs.Prelude.{List, [], ◌∷◌, ◌++◌, ℕ, eqb, if◌then◌else◌}
use Rattle.netkat_steps.specs.ListSteps.{Edge, edge}
use Rattle.aut_steps.specs.Relations as Rel

module _ (N : ℕ) where
  -- a transition goes behind the others, unless its label is empty
  abbrev pub behind : List Edge → ℕ → ℕ → List Edge
  behind kept t l = if eqb l (Rel.zero_at N) then kept else (kept ++ edge t l ∷ [])
