-- 01, "Lent tables": a transition is 2 words, target and label. A list of transitions as words, in the table or in scratch; and when its targets and labels are
-- in order.
use Rattle.std.specs.Prelude.{List, [], ◌∷◌, ℕ, zero, suc, ◌+◌, ◌*◌, ◌<◌, get_or}
use Rattle.netkat_steps.specs.ListSteps.{Edge, edge}
use Rattle.spp_steps.specs.Wf.{ValidAt}
use Rattle.aut_steps.specs.Tables.{Aut}
use Rattle.aut_steps.specs.Wf.{states}

-- the k transitions from record a on
unfoldable pub edges : List ℕ → ℕ → ℕ → List Edge
edges t a zero = []
edges t a (suc k) = edge (get_or t (2 * a) 0) (get_or t (2 * a + 1) 0) ∷ edges t (a + 1) k

-- a list's words
unfoldable pub flat : List Edge → List ℕ
flat [] = []
flat (e ∷ es) = e.target ∷ e.label ∷ flat es

-- the target is a state, the label a relation of N fields
pub record EdgeAt (N : ℕ) (σ : Aut) (e : Edge) : Type 0 where
  pub state : e.target < states σ
  pub relation : ValidAt σ.nodes N e.label

pub data EdgesAt (N : ℕ) (σ : Aut) : List Edge → Type 0 where
  none : EdgesAt N σ []
  also : {e : Edge} {es : List Edge} → EdgeAt N σ e → EdgesAt N σ es → EdgesAt N σ (e ∷ es)
