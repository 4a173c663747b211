-- 01, port order, step 3 (delta): lists joined one after the other, by union or by intersection. The list so far stands at RESULT, the next one is the stored list of a state.
use Rattle.std.specs.Prelude.{List, ℕ}
use Rattle.common.specs.Outcome.{Step}
use Rattle.netkat_steps.specs.ListSteps.{Edge, st_union, st_intersect}
use Rattle.aut_steps.specs.Tables as T
use Rattle.aut_steps.specs.Tables.{Aut}
use Rattle.aut_st_steps.specs.Operations.{ops}
use Rattle.aut_delta_steps.specs.Delta.{union_all, intersect_all}
use Rattle.aut_delta_many.specs.declared.Join.{Join}
use Rattle.aut_delta_many.specs.declared.Join.TheVariants as join

module _ (N : ℕ) (L : T.Limits) where
  abbrev pub join_one : Join → List Edge → List Edge → Step Aut (List Edge)
  join_one join.Union = st_union (ops N L)
  join_one join.Intersect = st_intersect (ops N L)

  -- from the list r on
  abbrev pub join_all : Join → List (List Edge) → List Edge → Step Aut (List Edge)
  join_all join.Union = union_all N L
  join_all join.Intersect = intersect_all N L
