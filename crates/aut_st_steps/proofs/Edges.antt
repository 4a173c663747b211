-- What holds of the definitions of specs/Edges.
use mathlib.Core.List.{List, ◌∷◌}
use Prim.Native.Nat.{ℕ}
use Rattle.netkat_steps.specs.ListSteps.{Edge}
use Rattle.spp_steps.proofs.Laws.{at_ext}
use Rattle.aut_steps.specs.Tables.{Aut}
use Rattle.aut_steps.specs.Wf.{ExtAut}
use Rattle.aut_steps.proofs.Wf.{state_grown}
use Rattle.aut_st_steps.specs.Edges.{EdgeAt, EdgesAt, none, also}

module _ {N : ℕ} {σ : Aut} where
  pub first_at : {e : Edge} {es : List Edge} → EdgesAt N σ (e ∷ es) → EdgeAt N σ e
  first_at (also p q) = p

  pub rest_at : {e : Edge} {es : List Edge} → EdgesAt N σ (e ∷ es) → EdgesAt N σ es
  rest_at (also p q) = q

module _ {N : ℕ} {σ τ : Aut} (g : ExtAut σ τ) where
  pub edge_grown : {e : Edge} → EdgeAt N σ e → EdgeAt N τ e
  edge_grown {e} p = record { state = state_grown g p.state; relation = at_ext g.nodes N e.label p.relation }

  pub edges_grown : {es : List Edge} → EdgesAt N σ es → EdgesAt N τ es
  edges_grown none = none
  edges_grown (also p q) = also (edge_grown p) (edges_grown q)
