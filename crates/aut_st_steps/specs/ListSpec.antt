-- What the operations on transition lists leave: tables in order, a list within the limit whose targets are states and whose labels are relations; or a
-- refusal with its reason (01, 9: a transition list, intermediate ones included, passes the limit).
use Rattle.std.specs.Prelude.{List, ℕ, ◌≤◌, ◌<◌, length}
use Rattle.netkat_steps.specs.ListSteps.{Edge, Summed}
use Rattle.spp_steps.specs.Wf.{ValidAt}
use Rattle.aut_steps.specs.Tables.{Limits, Aut}
use Rattle.aut_steps.specs.Wf.{states}
use Rattle.aut_st_steps.specs.Edges.{EdgesAt}

-- a list in order, within the limit
pub record ListAt (N : ℕ) (L : Limits) (σ : Aut) (es : List Edge) : Type 0 where
  pub edges : EdgesAt N σ es
  pub short : length es ≤ L.transitions

-- a relation of N fields
pub record Label (N : ℕ) (σ : Aut) (h : ℕ) : Type 0 where
  pub at : ValidAt σ.nodes N h

abbrev pub State : Aut → ℕ → Type 0
State τ x = x < states τ

-- ---- st_difference

-- the sum is a relation, the list in order
pub record SumAt (N : ℕ) (L : Limits) (σ : Aut) (s : Summed) : Type 0 where
  pub sum : Label N σ s.sum
  pub result : ListAt N L σ s.result
