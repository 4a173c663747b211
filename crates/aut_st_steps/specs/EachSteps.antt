-- 01, port order, step 3 (ST operations): what the list operations make of a transition before it is inserted, as one step over what is to be made; and netkat's loops over lists
-- in the parts in which the code makes them.
use Rattle.std.specs.Prelude.{List, ℕ}
use Rattle.common.specs.Outcome.{Step, return, ◌>>=◌}
use Rattle.netkat_steps.specs.ListSteps as St
use Rattle.netkat_steps.specs.ListSteps.{Edge, Summed}
use Rattle.aut_steps.specs.Tables.{Limits, Aut, on_nodes}
use Rattle.aut_steps.specs.Relations as Rel
use Rattle.aut_steps.specs.Constructors.{mk_difference}
use Rattle.aut_st_steps.specs.Operations.{ops}
use Rattle.aut_st_steps.specs.Edges.{EdgeAt}
use Rattle.aut_st_steps.specs.ListSpec.{Label, State}

-- what is made of a transition
pub data Each : Type 0 where
  same : Each  -- itself
  sequence : ℕ → Each  -- its target followed by a state
  after : ℕ → Each  -- its label behind a label
  intersect : ℕ → Each  -- its target met with a state
  complement : Each  -- its target's complement
  rest : ℕ → Each  -- its label without a label
  meet : Edge → Each  -- met with a transition

module _ (N : ℕ) (L : Limits) where
  abbrev pub made : Each → Edge → Step Aut Edge
  made same = return
  made (sequence x) = St.followed_by (ops N L) x
  made (after l) = St.after (ops N L) l
  made (intersect x) = St.met_with (ops N L) x
  made complement = St.complement_of (ops N L)
  made (rest l) = St.rest_of (ops N L) l
  made (meet t) = St.meet_of (ops N L) t

  -- a transition made and inserted
  abbrev pub insert_made : Each → Edge → List Edge → Step Aut (List Edge)
  insert_made each e list = made each e >>= λ new. St.insert (ops N L) new.target new.label list

  -- the difference of t and u, where their labels meet, inserted; the labels met so far
  unfoldable pub subtract_one : Edge → Edge → Summed → Step Aut Summed
  subtract_one t u s = do
    x ← mk_difference N L t.target u.target
    m ← on_nodes (Rel.intersect N t.label u.label)
    sum₁ ← on_nodes (Rel.union N s.sum m)
    result₁ ← St.insert (ops N L) x m s.result
    return (record { sum = sum₁; result = result₁ })

-- its operands are in order
abbrev pub EachAt : ℕ → Aut → Each → Type 0
EachAt N σ same = Unit
EachAt N σ (sequence x) = State σ x
EachAt N σ (after l) = Label N σ l
EachAt N σ (intersect x) = State σ x
EachAt N σ complement = Unit
EachAt N σ (rest l) = Label N σ l
EachAt N σ (meet t) = EdgeAt N σ t
