-- 01, port order, step 3 (ST operations): st_insert in the parts in which the code makes it. A transition of the list gives two to the new list, first what it
-- meets the inserted one in, then its rest; after the last comes the rest of the inserted one. The parts together are netkat's `place`, `split`, `insert`.
use Rattle.std.specs.Prelude.{List, [], ◌∷◌, ℕ, if◌then◌else◌}
use Rattle.common.specs.Outcome.{Step, return, ◌>>=◌}
use Rattle.netkat_steps.specs.ListSteps.{Edge, leads_to, unite, enter_in, place}
use Rattle.aut_steps.specs.Tables.{Limits, Aut, on_nodes}
use Rattle.aut_steps.specs.Relations as Rel
use Rattle.aut_steps.specs.Constructors.{mk_union}
use Rattle.aut_st_steps.specs.Operations.{ops}
use Rattle.aut_st_steps.specs.ListSpec.{ListAt, Label}

-- a label, and the list so far
pub record Part : Type 0 where
  pub label : ℕ
  pub list : List Edge

abbrev pub part : ℕ → List Edge → Part
part l es = record { label = l; list = es }

-- the label is a relation, the list in order
pub record PartAt (N : ℕ) (L : Limits) (σ : Aut) (p : Part) : Type 0 where
  pub label : Label N σ p.label
  pub list : ListAt N L σ p.list

module _ (N : ℕ) (L : Limits) where
  -- st_insert_helper behind its tests for zero
  unfoldable pub place_in : ℕ → ℕ → List Edge → Step Aut (List Edge)
  place_in s l list = if leads_to (ops N L) s list then unite (ops N L) s l list else enter_in (ops N L) s l list

  -- the label in which u meets l, and the list with it
  unfoldable pub meet_in : ℕ → ℕ → Edge → List Edge → Step Aut Part
  meet_in s l u list = do
    meet ← on_nodes (Rel.intersect N l u.label)
    both ← mk_union N L s u.target
    list₁ ← place (ops N L) both meet list
    return (part meet list₁)

  -- the labels met so far, and the list with the rest of u
  unfoldable pub rest_in : ℕ → ℕ → Edge → List Edge → Step Aut Part
  rest_in total meet u list = do
    total₁ ← on_nodes (Rel.union N total meet)
    others ← on_nodes (Rel.difference N u.label meet)
    list₁ ← place (ops N L) u.target others list
    return (part total₁ list₁)

  -- one transition of the list
  unfoldable pub split_one : ℕ → ℕ → Edge → Part → Step Aut Part
  split_one s l u p = do
    q ← meet_in s l u p.list
    rest_in p.label q.label u q.list

  -- all of them
  unfoldable pub walk : ℕ → ℕ → List Edge → Part → Step Aut Part
  walk s l [] p = return p
  walk s l (u ∷ us) p = do
    q ← split_one s l u p
    walk s l us q
