-- 01, "Who can cause a refusal": why each list that delta makes is refused, and that it is within the limit, its targets states and its labels relations (aut_st_steps has this of the operations).
use mathlib.Core.List.{List, [], ◌∷◌}
use Prim.Native.Nat.{ℕ, ◌≤◌}
use native.Mathlib.Omega.{arith}
use Rattle.netkat.specs.Rules.{Language}
use Rattle.netkat.specs.Lists.{Transition, State as TransitionState}
use Rattle.netkat_steps.specs.ListSteps as ListSteps
use Rattle.netkat_steps.specs.ListSteps.{Edge, Are, none, also, IsList}
use Rattle.spp_steps.proofs.Laws.{den_one, den_top}
use Rattle.aut_steps.specs.Relations as Rel
use Rattle.aut_steps.specs.Tables.{Limits, Aut}
use Rattle.aut_steps.specs.Wf.{ExtAut, WfAut}
use Rattle.aut_steps.proofs.Wf.{grown_trans}
use Rattle.aut_steps.proofs.StepSpec.{StepSpec, goes_return, goes_bind}
use Rattle.aut_steps.proofs.StateLaws.{mk_spp_goes, mk_top_goes, mk_until_goes}
use Rattle.aut_st_steps.specs.Operations.{ops}
use Rattle.aut_st_steps.specs.Edges.{EdgesAt}
use Rattle.aut_st_steps.proofs.Edges.{edges_grown}
use Rattle.aut_st_steps.specs.ListSpec.{ListAt, Label, State}
use Rattle.aut_st_steps.proofs.ListSpec.{list_grown, list_empty, label_grown, st_union_goes, st_intersect_goes, st_postcompose_goes, st_precompose_goes, st_intersect_expr_goes, st_singleton_goes}
use Rattle.aut_delta_steps.specs.Delta.{union_all, intersect_all, intersect_first, sequence_list, star_list, until_list, dup_list, top_list}
use Rattle.aut_delta_steps.specs.Fits.{readings}

-- a list that means something has its targets and labels
pub list_at_lem : {N : ℕ} (L : Limits) {G : Aut → Type 0} {A : Language N} {σ : Aut} {es : List Edge} → IsList (readings N L G) A σ es → EdgesAt N σ es
list_at_lem {N} L {G} {σ = σ} i = go i.are
  where
    go : {es : List Edge} {list : List (Transition TransitionState N)} → Are (readings N L G) σ es list → EdgesAt N σ es
    go none = EdgesAt.none
    go (also k d a) = EdgesAt.also (record { state = k; relation = d.at }) (go a)

-- each of the lists is so
pub data ListsAt (N : ℕ) (L : Limits) (σ : Aut) : List (List Edge) → Type 0 where
  empties : ListsAt N L σ []
  with_list_lem : {es : List Edge} {lists : List (List Edge)} → ListAt N L σ es → ListsAt N L σ lists → ListsAt N L σ (es ∷ lists)

lists_grown : {N : ℕ} {L : Limits} {σ τ : Aut} {lists : List (List Edge)} → ExtAut σ τ → ListsAt N L σ lists → ListsAt N L τ lists
lists_grown w empties = empties
lists_grown w (with_list_lem t ts) = with_list_lem (list_grown w t) (lists_grown w ts)

module _ {N : ℕ} {L : Limits} where
  pub union_all_goes : (lists : List (List Edge)) {σ : Aut} {r : List Edge} → WfAut N L σ → ListsAt N L σ lists → ListAt N L σ r → StepSpec N L (ListAt N L) σ (union_all N L lists r σ)
  unfolding union_all
  union_all_goes [] {r = r} g ts t = goes_return r g t
  union_all_goes (es ∷ lists) g (with_list_lem u us) t = goes_bind (st_union_goes g t.edges u.edges) (λ τ r w v p. union_all_goes lists v (lists_grown w us) p)

  pub intersect_all_goes : (lists : List (List Edge)) {σ : Aut} {r : List Edge} → WfAut N L σ → ListsAt N L σ lists → ListAt N L σ r → StepSpec N L (ListAt N L) σ (intersect_all N L lists r σ)
  unfolding intersect_all
  intersect_all_goes [] {r = r} g ts t = goes_return r g t
  intersect_all_goes (es ∷ lists) g (with_list_lem u us) t = goes_bind (st_intersect_goes g t.edges u.edges) (λ τ r w v p. intersect_all_goes lists v (lists_grown w us) p)

  pub intersect_first_goes : (lists : List (List Edge)) {σ : Aut} → WfAut N L σ → ListsAt N L σ lists → StepSpec N L (ListAt N L) σ (intersect_first N L lists σ)
  intersect_first_goes [] {σ} g ts = goes_return [] g (list_empty σ)
  intersect_first_goes (es ∷ lists) g (with_list_lem u us) = intersect_all_goes lists g us u

  module _ {σ : Aut} (g : WfAut N L σ) where
    pub sequence_list_goes : {b ε : ℕ} {ts us : List Edge} → State σ b → Label N σ ε → EdgesAt N σ ts → EdgesAt N σ us → StepSpec N L (ListAt N L) σ (sequence_list N L b ε ts us σ)
    unfolding sequence_list
    sequence_list_goes k a t u =
        goes_bind (st_postcompose_goes g t k) (λ σ₁ late w₁ v₁ p₁.
        goes_bind (st_precompose_goes v₁ (label_grown w₁ a) (edges_grown w₁ u)) (λ σ₂ early w₂ v₂ p₂. st_union_goes v₂ (edges_grown w₂ p₁.edges) p₂.edges))

    pub star_list_goes : {x ε* : ℕ} {ts : List Edge} → State σ x → Label N σ ε* → EdgesAt N σ ts → StepSpec N L (ListAt N L) σ (star_list N L x ε* ts σ)
    unfolding star_list
    star_list_goes k a t = goes_bind (st_postcompose_goes g t k) (λ σ₁ late w₁ v₁ p₁. st_precompose_goes v₁ (label_grown w₁ a) p₁.edges)

    pub until_list_goes : {a b : ℕ} {ts us : List Edge} → State σ a → State σ b → EdgesAt N σ ts → EdgesAt N σ us → StepSpec N L (ListAt N L) σ (until_list N L a b ts us σ)
    unfolding until_list
    until_list_goes k m t u =
        goes_bind (mk_until_goes g k m) (λ σ₁ x w₁ v₁ p₁.
        goes_bind (st_intersect_expr_goes v₁ (edges_grown w₁ t) p₁.state) (λ σ₂ met w₂ v₂ p₂. st_union_goes v₂ (edges_grown (grown_trans w₁ w₂) u) p₂.edges))

    module _ (one : 1 ≤ L.transitions) where
      pub dup_list_goes : StepSpec N L (ListAt N L) σ (dup_list N L σ)
      unfolding dup_list
      dup_list_goes = goes_bind (mk_spp_goes g (den_one g.nodes N (omega arith))) (λ σ₁ x w v p. st_singleton_goes v p.state (record { at = (den_one v.nodes N (omega arith)).at }) one)

      pub next_list_goes : {a : ℕ} → State σ a → StepSpec N L (ListAt N L) σ (ListSteps.st_singleton (ops N L) (Rel.top_at N) a σ)
      next_list_goes k = st_singleton_goes g k (record { at = (den_top g.nodes N (omega arith)).at }) one

      pub top_list_goes : StepSpec N L (ListAt N L) σ (top_list N L σ)
      unfolding top_list
      top_list_goes = goes_bind (mk_top_goes g) (λ σ₁ x w v p. st_singleton_goes v p.state (record { at = (den_top v.nodes N (omega arith)).at }) one)
