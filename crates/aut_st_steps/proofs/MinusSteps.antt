-- 01, port order, step 3 (ST operations): st_difference's loop over the second list, a transition at a time. The steps for one and then those for the others
-- are netkat's `subtract_row`; and what the steps for one leave.
use mathlib.Core.Path.{◌≡◌, refl}
use mathlib.Core.List.{List, [], ◌∷◌}
use Prim.Native.Nat.{ℕ}
use Rattle.common.specs.Outcome.{Outcome, refused, given, Step, return, after, ◌>>=◌}
use Rattle.netkat_steps.specs.ListSteps.{Edge, insert, Summed, subtract_row, subtract_rows}
use Rattle.aut_steps.specs.Tables.{Limits, Aut, on_nodes}
use Rattle.aut_steps.specs.Relations as Rel
use Rattle.aut_steps.specs.Constructors.{mk_difference}
use Rattle.aut_steps.specs.Wf.{WfAut}
use Rattle.aut_steps.proofs.Wf.{grown_trans, state_grown}
use Rattle.aut_steps.proofs.StepSpec.{StepSpec, goes_return, goes_bind}
use Rattle.aut_steps.proofs.StateLaws.{mk_difference_goes}
use Rattle.aut_st_steps.specs.Operations.{ops}
use Rattle.aut_st_steps.specs.Edges.{EdgeAt}
use Rattle.aut_st_steps.proofs.Edges.{edge_grown}
use Rattle.aut_st_steps.specs.ListSpec.{SumAt}
use Rattle.aut_st_steps.proofs.ListSpec.{list_grown, label_grown, relation_of, union_goes, intersect_goes, insert_goes}
use Rattle.aut_st_steps.specs.EachSteps.{subtract_one}

module _ (N : ℕ) (L : Limits) where
  abbrev pub summed : ℕ → List Edge → Summed
  summed h es = record { sum = h; result = es }

  module _ (t u : Edge) (us : List Edge) where
    abbrev rest : Summed → Step Aut Summed
    rest = subtract_row (ops N L) t us

    inserted : (h : ℕ) (o : Outcome Aut (List Edge)) → after o (λ es. rest (summed h es)) ≡ after (after o (λ es. return (summed h es))) rest
    inserted h (refused e) = refl
    inserted h (given τ es) = refl

    united : (x m : ℕ) (es : List Edge) (o : Outcome Aut ℕ)
        → after o (λ h. insert (ops N L) x m es >>= λ fs. rest (summed h fs)) ≡ after (after o (λ h. insert (ops N L) x m es >>= λ fs. return (summed h fs))) rest
    united x m es (refused e) = refl
    united x m es (given τ h) = inserted h (insert (ops N L) x m es τ)

    met : (x h : ℕ) (es : List Edge) (o : Outcome Aut ℕ)
        → after o (λ m. on_nodes (Rel.union N h m) >>= λ g. insert (ops N L) x m es >>= λ fs. rest (summed g fs))
        ≡ after (after o (λ m. on_nodes (Rel.union N h m) >>= λ g. insert (ops N L) x m es >>= λ fs. return (summed g fs))) rest
    met x h es (refused e) = refl
    met x h es (given τ m) = united x m es (on_nodes (Rel.union N h m) τ)

    made : (h : ℕ) (es : List Edge) (o : Outcome Aut ℕ)
        → after o (λ x. on_nodes (Rel.intersect N t.label u.label) >>= λ m. on_nodes (Rel.union N h m) >>= λ g. insert (ops N L) x m es >>= λ fs. rest (summed g fs))
        ≡ after (after o (λ x. on_nodes (Rel.intersect N t.label u.label) >>= λ m. on_nodes (Rel.union N h m) >>= λ g. insert (ops N L) x m es >>= λ fs. return (summed g fs))) rest
    made h es (refused e) = refl
    made h es (given τ x) = met x h es (on_nodes (Rel.intersect N t.label u.label) τ)

  -- one transition, then the others
  pub subtract_row_is : (t u : Edge) (us : List Edge) (s : Summed) (σ : Aut) → subtract_row (ops N L) t (u ∷ us) s σ ≡ after (subtract_one N L t u s σ) (subtract_row (ops N L) t us)
  unfolding subtract_row subtract_one
  subtract_row_is t u us s σ = made t u us s.sum s.result (mk_difference N L t.target u.target σ)

  pub subtract_row_none : (t : Edge) (s : Summed) (σ : Aut) → subtract_row (ops N L) t [] s σ ≡ given σ s
  unfolding subtract_row
  subtract_row_none t s σ = refl

  pub subtract_rows_is : (us : List Edge) (t : Edge) (ts : List Edge) (s : Summed) (σ : Aut)
      → subtract_rows (ops N L) (t ∷ ts) us s σ ≡ after (subtract_row (ops N L) t us s σ) (λ s₁. subtract_rows (ops N L) ts us s₁)
  unfolding subtract_rows
  subtract_rows_is us t ts s σ = refl

  pub subtract_rows_none : (us : List Edge) (s : Summed) (σ : Aut) → subtract_rows (ops N L) [] us s σ ≡ given σ s
  unfolding subtract_rows
  subtract_rows_none us s σ = refl

pub subtract_one_goes : {N : ℕ} {L : Limits} {σ : Aut} → WfAut N L σ → {t u : Edge} → EdgeAt N σ t → EdgeAt N σ u → {s : Summed} → SumAt N L σ s → StepSpec N L (SumAt N L) σ (subtract_one N L t u s σ)
unfolding subtract_one
subtract_one_goes g t u p =
    goes_bind (mk_difference_goes g t.state u.state) (λ τ₁ x w₁ v₁ b₁.
    goes_bind (intersect_goes v₁ (relation_of (edge_grown w₁ t)) (relation_of (edge_grown w₁ u))) (λ τ₂ m w₂ v₂ b₂.
    goes_bind (union_goes v₂ (label_grown (grown_trans w₁ w₂) p.sum) b₂) (λ τ₃ h w₃ v₃ b₃.
    goes_bind (insert_goes v₃ (state_grown (grown_trans w₂ w₃) b₁.state) (label_grown w₃ b₂) (list_grown (grown_trans w₁ (grown_trans w₂ w₃)) p.result).edges) (λ τ₄ es w₄ v₄ b₄.
    goes_return _ v₄ (record { sum = label_grown w₄ b₃; result = b₄ })))))
