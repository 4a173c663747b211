-- What holds of the definitions of specs/InsertSteps.
use Rattle.std.specs.Prelude.{if◌then◌else◌}
use mathlib.Core.Path.{◌≡◌, refl}
use mathlib.Core.Bool.{Bool, true, false}
use mathlib.Core.List.{List, [], ◌∷◌}
use Prim.Native.Nat.{ℕ}
use native.Mathlib.Omega.{arith}
use lib.Dec.{eqb}
use Rattle.common.specs.Outcome.{Outcome, refused, given, Step, return, after, ◌>>=◌}
use Rattle.netkat_steps.specs.ListSteps.{Edge, leads_to, unite, enter_in, place, split, insert}
use Rattle.aut_steps.specs.Tables.{Limits, Aut, on_nodes, on_states}
use Rattle.aut_steps.specs.Relations as Rel
use Rattle.aut_steps.specs.Constructors.{mk_union, mk_spp}
use Rattle.aut_steps.specs.Wf.{WfAut}
use Rattle.aut_steps.proofs.Wf.{grown_trans, state_grown}
use Rattle.aut_steps.proofs.StepSpec.{StepSpec, goes_return, goes_bind, goes_map, branch}
use Rattle.aut_steps.proofs.UnionLaws.{mk_union_goes}
use Rattle.aut_st_steps.specs.Operations.{ops}
use Rattle.aut_st_steps.specs.Edges.{EdgeAt, EdgesAt}
use Rattle.aut_st_steps.proofs.Edges.{first_at, rest_at, edge_grown, edges_grown}
use Rattle.aut_st_steps.specs.ListSpec.{ListAt, Label, State}
use Rattle.aut_st_steps.proofs.ListSpec.{list_grown, label_grown, relation_of, union_goes, intersect_goes, difference_goes, unite_goes, enter_in_goes, place_goes}
use Rattle.aut_st_steps.specs.InsertSteps.{Part, part, PartAt, place_in, meet_in, rest_in, split_one, walk}

module _ (N : ℕ) (L : Limits) where
  -- what is left of l
  unfoldable pub place_rest : ℕ → ℕ → Part → Step Aut (List Edge)
  place_rest s l p = do
    rest ← on_nodes (Rel.difference N l p.label)
    place (ops N L) s rest p.list

-- ---- the parts together

module _ (N : ℕ) (L : Limits) where
  pub place_is : (s l : ℕ) (list : List Edge) (σ : Aut) → place (ops N L) s l list σ
      ≡ (if eqb l (Rel.zero_at N) then given σ list else after (on_states (mk_spp (Rel.zero_at N)) σ) (λ z. if eqb s z then return list else place_in N L s l list))
  unfolding place place_in
  place_is s l list σ = go (eqb l (Rel.zero_at N))
    where
      go : (b : Bool) → (if b then return list else (on_states (mk_spp (Rel.zero_at N)) >>= λ z. if eqb s z then return list else if leads_to (ops N L) s list then unite (ops N L) s l list else enter_in (ops N L) s l list)) σ
          ≡ (if b then given σ list else after (on_states (mk_spp (Rel.zero_at N)) σ) (λ z. if eqb s z then return list else if leads_to (ops N L) s list then unite (ops N L) s l list else enter_in (ops N L) s l list))
      go true = refl
      go false = refl

  -- the walk, and then what is left of l
  abbrev on : ℕ → ℕ → List Edge → Outcome Aut Part → Outcome Aut (List Edge)
  on s l us o = after (after o (walk N L s l us)) (place_rest N L s l)

  module _ (s l : ℕ) (u : Edge) (us : List Edge) (ih : (total : ℕ) (list : List Edge) (σ : Aut) → split (ops N L) s l us total list σ ≡ after (walk N L s l us (part total list) σ) (place_rest N L s l)) where
    rest_placed : (total : ℕ) (o : Outcome Aut (List Edge)) → after o (split (ops N L) s l us total) ≡ on s l us (after o (λ list. return (part total list)))
    rest_placed total (refused e) = refl
    rest_placed total (given τ list) = ih total list τ

    rest_made : (total : ℕ) (list : List Edge) (o : Outcome Aut ℕ)
        → after o (λ others. place (ops N L) u.target others list >>= split (ops N L) s l us total) ≡ on s l us (after o (λ others. place (ops N L) u.target others list >>= λ list₁. return (part total list₁)))
    rest_made total list (refused e) = refl
    rest_made total list (given τ others) = rest_placed total (place (ops N L) u.target others list τ)

    total_made : (meet : ℕ) (list : List Edge) (o : Outcome Aut ℕ)
        → after o (λ total. on_nodes (Rel.difference N u.label meet) >>= λ others. place (ops N L) u.target others list >>= split (ops N L) s l us total)
        ≡ on s l us (after o (λ total. on_nodes (Rel.difference N u.label meet) >>= λ others. place (ops N L) u.target others list >>= λ list₁. return (part total list₁)))
    total_made meet list (refused e) = refl
    total_made meet list (given τ total) = rest_made total list (on_nodes (Rel.difference N u.label meet) τ)

    -- the second half of a turn
    abbrev second : ℕ → Outcome Aut Part → Outcome Aut Part
    second total o = after o (λ q. rest_in N L total q.label u q.list)

    abbrev later : ℕ → ℕ → List Edge → Step Aut (List Edge)
    later total meet list =
        on_nodes (Rel.union N total meet) >>= λ total₁. on_nodes (Rel.difference N u.label meet) >>= λ others. place (ops N L) u.target others list >>= split (ops N L) s l us total₁

    meet_placed : (total meet : ℕ) (o : Outcome Aut (List Edge)) → after o (later total meet) ≡ on s l us (second total (after o (λ list. return (part meet list))))
    unfolding rest_in
    meet_placed total meet (refused e) = refl
    meet_placed total meet (given τ list) = total_made meet list (on_nodes (Rel.union N total meet) τ)

    both_made : (total meet : ℕ) (list : List Edge) (o : Outcome Aut ℕ)
        → after o (λ both. place (ops N L) both meet list >>= later total meet) ≡ on s l us (second total (after o (λ both. place (ops N L) both meet list >>= λ list₁. return (part meet list₁))))
    both_made total meet list (refused e) = refl
    both_made total meet list (given τ both) = meet_placed total meet (place (ops N L) both meet list τ)

    meet_made : (total : ℕ) (list : List Edge) (o : Outcome Aut ℕ)
        → after o (λ meet. mk_union N L s u.target >>= λ both. place (ops N L) both meet list >>= later total meet)
        ≡ on s l us (second total (after o (λ meet. mk_union N L s u.target >>= λ both. place (ops N L) both meet list >>= λ list₁. return (part meet list₁))))
    meet_made total list (refused e) = refl
    meet_made total list (given τ meet) = both_made total meet list (mk_union N L s u.target τ)

  pub split_is : (s l : ℕ) (us : List Edge) (total : ℕ) (list : List Edge) (σ : Aut) → split (ops N L) s l us total list σ ≡ after (walk N L s l us (part total list) σ) (place_rest N L s l)
  unfolding split walk split_one meet_in place_rest
  split_is s l [] total list σ = refl
  split_is s l (u ∷ us) total list σ = meet_made s l u us (λ t es τ. split_is s l us t es τ) total list (on_nodes (Rel.intersect N l u.label) σ)

  pub insert_is : (s l : ℕ) (list : List Edge) (σ : Aut) → insert (ops N L) s l list σ ≡ after (walk N L s l list (part (Rel.zero_at N) []) σ) (place_rest N L s l)
  unfolding insert
  insert_is s l list σ = split_is s l list (Rel.zero_at N) [] σ

-- ---- what they leave

module _ {N : ℕ} {L : Limits} {σ : Aut} (g : WfAut N L σ) where
  pub place_in_goes : {s l : ℕ} → State σ s → Label N σ l → {es : List Edge} → ListAt N L σ es → StepSpec N L (ListAt N L) σ (place_in N L s l es σ)
  unfolding place_in
  place_in_goes {s} {l} x a {es} p =
      branch (leads_to (ops N L) s es) _ _ (λ _. goes_map (unite_goes g s l a p.edges) (λ τ fs w v b. record { edges = b.0; short = omega (arith, b.1, p.short) })) (λ _. enter_in_goes g x a p)

  pub meet_in_goes : {s l : ℕ} → State σ s → Label N σ l → {u : Edge} → EdgeAt N σ u → {es : List Edge} → ListAt N L σ es → StepSpec N L (PartAt N L) σ (meet_in N L s l u es σ)
  unfolding meet_in
  meet_in_goes x a u p =
      goes_bind (intersect_goes g a (relation_of u)) (λ τ₁ meet w₁ v₁ b₁.
      goes_bind (mk_union_goes v₁ (state_grown w₁ x) (state_grown w₁ u.state)) (λ τ₂ both w₂ v₂ b₂.
      goes_bind (place_goes v₂ b₂.state (label_grown w₂ b₁) (list_grown (grown_trans w₁ w₂) p)) (λ τ₃ es w₃ v₃ b₃.
      goes_return _ v₃ (record { label = label_grown (grown_trans w₂ w₃) b₁; list = b₃ }))))

  pub rest_in_goes : {total meet : ℕ} → Label N σ total → Label N σ meet → {u : Edge} → EdgeAt N σ u → {es : List Edge} → ListAt N L σ es → StepSpec N L (PartAt N L) σ (rest_in N L total meet u es σ)
  unfolding rest_in
  rest_in_goes t a u p =
      goes_bind (union_goes g t a) (λ τ₁ total₁ w₁ v₁ b₁.
      goes_bind (difference_goes v₁ (label_grown w₁ (relation_of u)) (label_grown w₁ a)) (λ τ₂ others w₂ v₂ b₂. let w = grown_trans w₁ w₂ in
      goes_bind (place_goes v₂ (state_grown w u.state) b₂ (list_grown w p)) (λ τ₃ es w₃ v₃ b₃.
      goes_return _ v₃ (record { label = label_grown (grown_trans w₂ w₃) b₁; list = b₃ }))))

module _ {N : ℕ} {L : Limits} where
  pub split_one_goes : {σ : Aut} → WfAut N L σ → {s l : ℕ} → State σ s → Label N σ l → {u : Edge} → EdgeAt N σ u → {p : Part} → PartAt N L σ p → StepSpec N L (PartAt N L) σ (split_one N L s l u p σ)
  unfolding split_one
  split_one_goes g x a u p = goes_bind (meet_in_goes g x a u p.list) (λ τ q w v b. rest_in_goes v (label_grown w p.label) b.label (edge_grown w u) b.list)

  pub walk_goes : {σ : Aut} → WfAut N L σ → {s l : ℕ} → State σ s → Label N σ l → (us : List Edge) → EdgesAt N σ us → {p : Part} → PartAt N L σ p → StepSpec N L (PartAt N L) σ (walk N L s l us p σ)
  unfolding walk
  walk_goes g x a [] u {p} q = goes_return p g q
  walk_goes g x a (e ∷ us) u q = goes_bind (split_one_goes g x a (first_at u) q) (λ τ r w v b. walk_goes v (state_grown w x) (label_grown w a) us (edges_grown w (rest_at u)) b)
