-- What holds of the definitions of specs/ListSpec.
use Rattle.std.specs.Prelude.{if◌then◌else◌}
use mathlib.Core.Path.{◌≡◌, refl, ap}
use mathlib.Core.Bool.{Bool, true, false}
use mathlib.Core.List.{List, [], ◌∷◌}
use Prim.Native.Nat.{ℕ, suc, ◌≤◌}
use native.Mathlib.Omega.{arith}
use lib.Dec.{eqb, ltb}
use lib.ListN.{length}
use borrow.Author.Tests.{ltb-true, ltb-false}
use Rattle.common.specs.Packets.{Relation}
use Rattle.common.specs.Outcome.{Step, return}
use Rattle.common.specs.Runs.{Table}
use Rattle.netkat_steps.specs.ListSteps as St
use Rattle.netkat_steps.specs.ListSteps.{Edge, edge, leads_to, unite, enter, enter_in, place, st_singleton, split, insert, insert_each, insert_pairs, st_union, meet_of, st_intersect, Summed, subtract_row, subtract_rows, rest_of, st_difference, st_xor, complement_of, cover_all, st_complement, followed_by, st_postcompose, st_precompose, met_with, st_intersect_expr}
use Rattle.spp_steps.proofs.Laws.{at_ext, den_zero, den_mem}
use Rattle.spp_steps.specs.Model as Spp
use Rattle.spp_steps.proofs.Apply.{apply_exact}
use Rattle.aut_steps.specs.Tables.{Limits, Aut, on_nodes, on_states}
use Rattle.aut_steps.specs.Relations as Rel
use Rattle.aut_steps.proofs.RelationLaws.{Makes, union_made, intersect_made, difference_made, sequence_made, made}
use Rattle.aut_steps.specs.Constructors.{mk_spp}
use Rattle.aut_steps.specs.Wf.{ExtAut, WfAut}
use Rattle.aut_steps.proofs.Wf.{grown_refl, grown_trans, state_grown}
use Rattle.aut_steps.proofs.StepSpec.{StepSpec, full_list, stops_here, goes_return, goes_bind, goes_map, branch}
use Rattle.aut_steps.proofs.StateLaws.{nodes_goes, zero_goes, mk_top_goes, mk_complement_goes, mk_difference_goes}
use Rattle.aut_steps.proofs.UnionLaws.{mk_union_goes}
use Rattle.aut_steps.proofs.IntersectLaws.{mk_intersect_goes}
use Rattle.aut_steps.proofs.SequenceLaws.{mk_sequence_goes}
use Rattle.aut_st_steps.specs.Operations.{ops}
use Rattle.aut_st_steps.specs.Edges.{EdgeAt, EdgesAt, none, also}
use Rattle.aut_st_steps.proofs.Edges.{first_at, rest_at, edge_grown, edges_grown}
use Rattle.aut_st_steps.specs.ListSpec.{ListAt, Label, State, SumAt}

module _ {N : ℕ} {L : Limits} where
  pub list_grown : {σ τ : Aut} → ExtAut σ τ → {es : List Edge} → ListAt N L σ es → ListAt N L τ es
  list_grown g p = record { edges = edges_grown g p.edges; short = p.short }

  pub list_empty : (σ : Aut) → ListAt N L σ []
  list_empty σ = record { edges = none; short = omega arith }

pub label_grown : {N : ℕ} {σ τ : Aut} → ExtAut σ τ → {h : ℕ} → Label N σ h → Label N τ h
label_grown {N} g {h} a = record { at = at_ext g.nodes N h a.at }

pub relation_of : {N : ℕ} {σ : Aut} {e : Edge} → EdgeAt N σ e → Label N σ e.label
relation_of p = record { at = p.relation }

-- ---- labels and states

module _ {N : ℕ} {L : Limits} {σ : Aut} (g : WfAut N L σ) where
  label_goes : {R : Relation N} (c : Step Table ℕ) → Makes N R σ.nodes (c σ.nodes) → StepSpec N L (Label N) σ (on_nodes c σ)
  label_goes c m = goes_map (nodes_goes g m) (λ τ h w v d. record { at = d.at })

  pub zero_label : Label N σ (Rel.zero_at N)
  zero_label = record { at = (den_zero g.nodes N (omega arith)).at }

  module _ {l m : ℕ} (a : Label N σ l) (b : Label N σ m) where
    pub union_goes : StepSpec N L (Label N) σ (on_nodes (Rel.union N l m) σ)
    union_goes = label_goes (Rel.union N l m) (union_made N σ.nodes g.nodes l m a.at b.at)

    pub intersect_goes : StepSpec N L (Label N) σ (on_nodes (Rel.intersect N l m) σ)
    intersect_goes = label_goes (Rel.intersect N l m) (intersect_made N σ.nodes g.nodes l m a.at b.at)

    pub difference_goes : StepSpec N L (Label N) σ (on_nodes (Rel.difference N l m) σ)
    difference_goes = label_goes (Rel.difference N l m) (difference_made N σ.nodes g.nodes l m a.at b.at)

    pub sequence_goes : StepSpec N L (Label N) σ (on_nodes (Rel.sequence N l m) σ)
    sequence_goes = label_goes (Rel.sequence N l m) (sequence_made N σ.nodes g.nodes l m a.at b.at)

  pub complement_goes : {l : ℕ} → Label N σ l → StepSpec N L (Label N) σ (on_nodes (Spp.complement N N l) σ)
  unfolding Spp.complement
  complement_goes {l} a =
      label_goes (Spp.complement N N l) (made N (apply_exact N Spp.not N (omega arith) σ.nodes l l (Rel.pairs N σ.nodes l) (Rel.pairs N σ.nodes l) g.nodes (den_mem a.at) (den_mem a.at)))

  pub zero_state_goes : StepSpec N L State σ (on_states (mk_spp (Rel.zero_at N)) σ)
  zero_state_goes = goes_map (zero_goes g) (λ τ x w v i. i.state)

-- ---- one transition more

enter_if : {N : ℕ} {σ : Aut} {s l : ℕ} {e : Edge} {es fs : List Edge} → EdgeAt N σ (edge s l) → EdgesAt N σ (e ∷ es) → EdgesAt N σ fs
    → (b : Bool) → EdgesAt N σ (if b then (edge s l ∷ e ∷ es) else (e ∷ fs))
enter_if a p q true = also a p
enter_if a p q false = also (first_at p) q

enter_more : (s l : ℕ) (e : Edge) (es fs : List Edge) → length fs ≡ suc (length es) → (b : Bool) → length (if b then (edge s l ∷ e ∷ es) else (e ∷ fs)) ≡ suc (suc (length es))
enter_more s l e es fs q true = refl
enter_more s l e es fs q false = ap suc q

module _ (N : ℕ) (L : Limits) where
  enter_at : {σ : Aut} {s l : ℕ} → EdgeAt N σ (edge s l) → {es : List Edge} → EdgesAt N σ es → EdgesAt N σ (enter (ops N L) s l es)
  unfolding enter
  enter_at a none = also a none
  enter_at {s = s} a (also {e} p q) = enter_if a (also p q) (enter_at a q) (ltb s e.target)

  enter_length : (s l : ℕ) (es : List Edge) → length (enter (ops N L) s l es) ≡ suc (length es)
  unfolding enter
  enter_length s l [] = refl
  enter_length s l (u ∷ us) = enter_more s l u us (enter (ops N L) s l us) (enter_length s l us) (ltb s u.target)

module _ {N : ℕ} {L : Limits} where
  pub unite_goes : {σ : Aut} → WfAut N L σ → (s l : ℕ) → Label N σ l → {es : List Edge} → EdgesAt N σ es
      → StepSpec N L (λ τ fs. EdgesAt N τ fs × (length fs ≡ length es)) σ (unite (ops N L) s l es σ)
  unfolding unite
  unite_goes g s l a none = goes_return [] g (none, refl)
  unite_goes g s l a (also {e} {es} p q) =
      branch (eqb s e.target) _ _
      (λ _. goes_bind (union_goes g (relation_of p) a) (λ τ m w v b. goes_return _ v (also (record { state = state_grown w p.state; relation = b.at }) (edges_grown w q), refl)))
      (λ _. goes_bind (unite_goes g s l a q) (λ τ fs w v b. goes_return _ v (also (edge_grown w p) b.0, ap suc b.1)))

  module _ {σ : Aut} (g : WfAut N L σ) {s l : ℕ} (x : State σ s) (a : Label N σ l) where
    pub enter_in_goes : {es : List Edge} → ListAt N L σ es → StepSpec N L (ListAt N L) σ (enter_in (ops N L) s l es σ)
    unfolding enter_in
    enter_in_goes {es} p =
        branch (ltb (length es) L.transitions) _ _
        (λ q. goes_return _ g (record {
          edges = enter_at N L (record { state = x; relation = a.at }) p.edges;
          short = omega (arith, enter_length N L s l es, ltb-true (length es) L.transitions q);
        }))
        (λ q. stops_here g (full_list es (ltb-false (length es) L.transitions q)))

  module _ {σ : Aut} (g : WfAut N L σ) {s l : ℕ} (x : State σ s) (a : Label N σ l) where
    -- st_insert_helper
    pub place_goes : {es : List Edge} → ListAt N L σ es → StepSpec N L (ListAt N L) σ (place (ops N L) s l es σ)
    unfolding place
    place_goes {es} p =
        branch (eqb l (Rel.zero_at N)) _ _ (λ _. goes_return es g p)
        (λ _. goes_bind (zero_state_goes g) (λ τ z w v i. branch (eqb s z) _ _ (λ _. goes_return es v (list_grown w p))
        (λ _. branch (leads_to (ops N L) s es) _ _
        (λ _. goes_map (unite_goes v s l (label_grown w a) (edges_grown w p.edges)) (λ τ' fs w' v' b. record { edges = b.0; short = omega (arith, b.1, p.short) }))
        (λ _. enter_in_goes v (state_grown w x) (label_grown w a) (list_grown w p)))))

    -- st_singleton
    pub st_singleton_goes : 1 ≤ L.transitions → StepSpec N L (ListAt N L) σ (st_singleton (ops N L) l s σ)
    unfolding st_singleton
    st_singleton_goes few =
        branch (eqb l (Rel.zero_at N)) _ _ (λ _. goes_return [] g (list_empty σ))
        (λ _. goes_bind (zero_state_goes g) (λ τ z w v i. branch (eqb s z) _ _ (λ _. goes_return [] v (list_empty τ))
        (λ _. goes_return _ v (record { edges = also (record { state = state_grown w x; relation = (label_grown w a).at }) none; short = few }))))

  -- ---- insertion

  pub split_goes : {σ : Aut} → WfAut N L σ → {s l : ℕ} → State σ s → Label N σ l → (us : List Edge) → EdgesAt N σ us → {total : ℕ} → Label N σ total → {es : List Edge} → ListAt N L σ es
      → StepSpec N L (ListAt N L) σ (split (ops N L) s l us total es σ)
  unfolding split
  split_goes g x a [] u t p = goes_bind (difference_goes g a t) (λ τ rest w v b. place_goes v (state_grown w x) b (list_grown w p))
  split_goes g x a (e ∷ us) u t p =
      goes_bind (intersect_goes g a (relation_of (first_at u))) (λ τ₁ meet w₁ v₁ b₁.
      goes_bind (mk_union_goes v₁ (state_grown w₁ x) (state_grown w₁ (first_at u).state)) (λ τ₂ both w₂ v₂ b₂. let w₂₀ = grown_trans w₁ w₂ in
      goes_bind (place_goes v₂ b₂.state (label_grown w₂ b₁) (list_grown w₂₀ p)) (λ τ₃ r₁ w₃ v₃ b₃. let w₃₀ = grown_trans w₂₀ w₃ in
      goes_bind (union_goes v₃ (label_grown w₃₀ t) (label_grown (grown_trans w₂ w₃) b₁)) (λ τ₄ total₁ w₄ v₄ b₄. let w₄₀ = grown_trans w₃₀ w₄ in
      goes_bind (difference_goes v₄ (label_grown w₄₀ (relation_of (first_at u))) (label_grown (grown_trans w₂ (grown_trans w₃ w₄)) b₁)) (λ τ₅ others w₅ v₅ b₅. let w₅₀ = grown_trans w₄₀ w₅ in
      goes_bind (place_goes v₅ (state_grown w₅₀ (first_at u).state) b₅ (list_grown (grown_trans w₄ w₅) b₃)) (λ τ₆ r₂ w₆ v₆ b₆. let w₆₀ = grown_trans w₅₀ w₆ in
      split_goes v₆ (state_grown w₆₀ x) (label_grown w₆₀ a) us (edges_grown w₆₀ (rest_at u)) (label_grown (grown_trans w₅ w₆) b₄) b₆))))))

  -- st_insert
  pub insert_goes : {σ : Aut} → WfAut N L σ → {s l : ℕ} → State σ s → Label N σ l → {es : List Edge} → EdgesAt N σ es → StepSpec N L (ListAt N L) σ (insert (ops N L) s l es σ)
  unfolding insert
  insert_goes {σ} g x a {es} e = split_goes g x a es e (zero_label g) (list_empty σ)

-- ---- insertion of many

-- what is made of a transition is one, in all later tables
abbrev pub Maker : ℕ → Limits → Aut → (Edge → Step Aut Edge) → Type 0
Maker N L σ make = (τ : Aut) (e : Edge) → ExtAut σ τ → WfAut N L τ → EdgeAt N τ e → StepSpec N L (EdgeAt N) τ (make e τ)

maker_later : {N : ℕ} {L : Limits} {σ τ : Aut} {make : Edge → Step Aut Edge} → ExtAut σ τ → Maker N L σ make → Maker N L τ make
maker_later w f υ e w' v p = f υ e (grown_trans w w') v p

module _ {N : ℕ} {L : Limits} where
  pub insert_each_goes : {σ : Aut} → WfAut N L σ → (make : Edge → Step Aut Edge) → Maker N L σ make → (ts : List Edge) → EdgesAt N σ ts → {es : List Edge} → ListAt N L σ es
      → StepSpec N L (ListAt N L) σ (insert_each (ops N L) make ts es σ)
  unfolding insert_each
  insert_each_goes g make f [] a {es} p = goes_return es g p
  insert_each_goes {σ} g make f (t ∷ ts) a p =
      goes_bind (f σ t (grown_refl σ) g (first_at a)) (λ τ₁ new w₁ v₁ b₁.
      goes_bind (insert_goes v₁ b₁.state (relation_of b₁) (list_grown w₁ p).edges) (λ τ₂ r w₂ v₂ b₂. let w = grown_trans w₁ w₂ in
      insert_each_goes v₂ make (maker_later w f) ts (edges_grown w (rest_at a)) b₂))

  pub insert_pairs_goes : {σ : Aut} → WfAut N L σ → (make : Edge → Edge → Step Aut Edge)
      → ((τ : Aut) (t : Edge) → ExtAut σ τ → WfAut N L τ → EdgeAt N τ t → Maker N L τ (make t))
      → (ts us : List Edge) → EdgesAt N σ ts → EdgesAt N σ us → {es : List Edge} → ListAt N L σ es → StepSpec N L (ListAt N L) σ (insert_pairs (ops N L) make ts us es σ)
  unfolding insert_pairs
  insert_pairs_goes g make f [] us a b {es} p = goes_return es g p
  insert_pairs_goes {σ} g make f (t ∷ ts) us a b p =
      goes_bind (insert_each_goes g (make t) (f σ t (grown_refl σ) g (first_at a)) us b p) (λ τ r w v q.
      insert_pairs_goes v make (λ υ e w' v' h. f υ e (grown_trans w w') v' h) ts us (edges_grown w (rest_at a)) (edges_grown w b) q)

  -- ---- what is made of a transition

  pub return_makes : (σ : Aut) → Maker N L σ return
  return_makes σ τ e w v p = goes_return e v p

  pub follow_makes : {σ : Aut} {x : ℕ} → State σ x → Maker N L σ (followed_by (ops N L) x)
  follow_makes i τ e w v p =
      goes_bind (mk_sequence_goes v p.state (state_grown w i)) (λ υ z w' v' b. goes_return _ v' (record { state = b.state; relation = (label_grown w' (relation_of p)).at }))

  pub meet_with_makes : {σ : Aut} {x : ℕ} → State σ x → Maker N L σ (met_with (ops N L) x)
  meet_with_makes i τ e w v p =
      goes_bind (mk_intersect_goes v p.state (state_grown w i)) (λ υ z w' v' b. goes_return _ v' (record { state = b.state; relation = (label_grown w' (relation_of p)).at }))

  pub complement_makes : (σ : Aut) → Maker N L σ (complement_of (ops N L))
  complement_makes σ τ e w v p =
      goes_bind (mk_complement_goes v p.state) (λ υ z w' v' b. goes_return _ v' (record { state = b.state; relation = (label_grown w' (relation_of p)).at }))

  pub after_makes : {σ : Aut} {l : ℕ} → Label N σ l → Maker N L σ (St.after (ops N L) l)
  after_makes a τ e w v p = goes_bind (sequence_goes v (label_grown w a) (relation_of p)) (λ υ m w' v' b. goes_return _ v' (record { state = state_grown w' p.state; relation = b.at }))

  pub rest_makes : {σ : Aut} {sum : ℕ} → Label N σ sum → Maker N L σ (rest_of (ops N L) sum)
  rest_makes a τ e w v p = goes_bind (difference_goes v (relation_of p) (label_grown w a)) (λ υ m w' v' b. goes_return _ v' (record { state = state_grown w' p.state; relation = b.at }))

  pub meet_makes : (σ : Aut) (t : Edge) → EdgeAt N σ t → Maker N L σ (meet_of (ops N L) t)
  meet_makes σ t q τ e w v p =
      goes_bind (mk_intersect_goes v (state_grown w q.state) p.state) (λ τ₁ x w₁ v₁ b₁.
      goes_bind (intersect_goes v₁ (relation_of (edge_grown (grown_trans w w₁) q)) (relation_of (edge_grown w₁ p))) (λ τ₂ m w₂ v₂ b₂.
      goes_return _ v₂ (record { state = state_grown w₂ b₁.state; relation = b₂.at })))

  -- ---- the operations

  module _ {σ : Aut} (g : WfAut N L σ) where
    module _ {ts us : List Edge} (a : EdgesAt N σ ts) (b : EdgesAt N σ us) where
      -- st_union
      pub st_union_goes : StepSpec N L (ListAt N L) σ (st_union (ops N L) ts us σ)
      unfolding st_union
      st_union_goes = goes_bind (insert_each_goes g return (return_makes σ) ts a (list_empty σ)) (λ τ r w v p. insert_each_goes v return (return_makes τ) us (edges_grown w b) p)

      -- st_intersect
      pub st_intersect_goes : StepSpec N L (ListAt N L) σ (st_intersect (ops N L) ts us σ)
      unfolding st_intersect
      st_intersect_goes = insert_pairs_goes g (meet_of (ops N L)) (λ τ t w v p. meet_makes τ t p) ts us a b (list_empty σ)

    -- st_postcompose, st_precompose, st_intersect_expr
    pub st_postcompose_goes : {ts : List Edge} → EdgesAt N σ ts → {x : ℕ} → State σ x → StepSpec N L (ListAt N L) σ (st_postcompose (ops N L) ts x σ)
    unfolding st_postcompose
    st_postcompose_goes {ts} a {x} i = insert_each_goes g (followed_by (ops N L) x) (follow_makes i) ts a (list_empty σ)

    pub st_precompose_goes : {l : ℕ} → Label N σ l → {ts : List Edge} → EdgesAt N σ ts → StepSpec N L (ListAt N L) σ (st_precompose (ops N L) l ts σ)
    unfolding st_precompose
    st_precompose_goes {l} i {ts} a = insert_each_goes g (St.after (ops N L) l) (after_makes i) ts a (list_empty σ)

    pub st_intersect_expr_goes : {ts : List Edge} → EdgesAt N σ ts → {x : ℕ} → State σ x → StepSpec N L (ListAt N L) σ (st_intersect_expr (ops N L) ts x σ)
    unfolding st_intersect_expr
    st_intersect_expr_goes {ts} a {x} i = insert_each_goes g (met_with (ops N L) x) (meet_with_makes i) ts a (list_empty σ)

module _ {N : ℕ} {L : Limits} where
  pub subtract_row_goes : {σ : Aut} → WfAut N L σ → {t : Edge} → EdgeAt N σ t → (us : List Edge) → EdgesAt N σ us → {s : Summed} → SumAt N L σ s
      → StepSpec N L (SumAt N L) σ (subtract_row (ops N L) t us s σ)
  unfolding subtract_row
  subtract_row_goes g q [] b {s} p = goes_return s g p
  subtract_row_goes g q (u ∷ us) b p =
      goes_bind (mk_difference_goes g q.state (first_at b).state) (λ τ₁ x w₁ v₁ b₁.
      goes_bind (intersect_goes v₁ (relation_of (edge_grown w₁ q)) (relation_of (edge_grown w₁ (first_at b)))) (λ τ₂ m w₂ v₂ b₂.
      goes_bind (union_goes v₂ (label_grown (grown_trans w₁ w₂) p.sum) b₂) (λ τ₃ sum₁ w₃ v₃ b₃.
      goes_bind (insert_goes v₃ (state_grown (grown_trans w₂ w₃) b₁.state) (label_grown w₃ b₂) (list_grown (grown_trans w₁ (grown_trans w₂ w₃)) p.result).edges) (λ τ₄ r w₄ v₄ b₄.
      let w = grown_trans w₁ (grown_trans w₂ (grown_trans w₃ w₄)) in
      subtract_row_goes v₄ (edge_grown w q) us (edges_grown w (rest_at b)) (record { sum = label_grown w₄ b₃; result = b₄ })))))

  pub subtract_rows_goes : {σ : Aut} → WfAut N L σ → (ts us : List Edge) → EdgesAt N σ ts → EdgesAt N σ us → {s : Summed} → SumAt N L σ s
      → StepSpec N L (SumAt N L) σ (subtract_rows (ops N L) ts us s σ)
  unfolding subtract_rows
  subtract_rows_goes g [] us a b {s} p = goes_return s g p
  subtract_rows_goes g (t ∷ ts) us a b p =
      goes_bind (subtract_row_goes g (first_at a) us b p) (λ τ s w v q. subtract_rows_goes v ts us (edges_grown w (rest_at a)) (edges_grown w b) q)

  module _ {σ : Aut} (g : WfAut N L σ) where
    pub st_difference_goes : {ts us : List Edge} → EdgesAt N σ ts → EdgesAt N σ us → StepSpec N L (ListAt N L) σ (st_difference (ops N L) ts us σ)
    unfolding st_difference
    st_difference_goes {ts} {us} a b =
        goes_bind (subtract_rows_goes g ts us a b (record { sum = zero_label g; result = list_empty σ }))
        (λ τ s w v p. insert_each_goes v (rest_of (ops N L) s.sum) (rest_makes p.sum) ts (edges_grown w a) p.result)

  module _ {σ : Aut} (g : WfAut N L σ) where
    -- st_xor
    pub st_xor_goes : {ts us : List Edge} → EdgesAt N σ ts → EdgesAt N σ us → StepSpec N L (ListAt N L) σ (st_xor (ops N L) ts us σ)
    unfolding st_xor
    st_xor_goes a b =
        goes_bind (st_difference_goes g a b) (λ τ₁ left w₁ v₁ p.
        goes_bind (st_difference_goes v₁ (edges_grown w₁ b) (edges_grown w₁ a)) (λ τ₂ right w₂ v₂ q. st_union_goes v₂ (list_grown w₂ p).edges q.edges))

  -- ---- st_complement

  pub cover_all_goes : {σ : Aut} → WfAut N L σ → (ts : List Edge) → EdgesAt N σ ts → {sum : ℕ} → Label N σ sum → StepSpec N L (Label N) σ (cover_all (ops N L) ts sum σ)
  unfolding cover_all
  cover_all_goes g [] a {sum} p = goes_return sum g p
  cover_all_goes g (t ∷ ts) a p = goes_bind (union_goes g p (relation_of (first_at a))) (λ τ m w v b. cover_all_goes v ts (edges_grown w (rest_at a)) b)

  module _ {σ : Aut} (g : WfAut N L σ) where
    pub st_complement_goes : {ts : List Edge} → EdgesAt N σ ts → StepSpec N L (ListAt N L) σ (st_complement (ops N L) ts σ)
    unfolding st_complement
    st_complement_goes {ts} a =
        goes_bind (insert_each_goes g (complement_of (ops N L)) (complement_makes σ) ts a (list_empty σ)) (λ τ₁ r w₁ v₁ p.
        goes_bind (cover_all_goes v₁ ts (edges_grown w₁ a) (zero_label v₁)) (λ τ₂ covered w₂ v₂ b₂.
        goes_bind (complement_goes v₂ b₂) (λ τ₃ rest w₃ v₃ b₃.
        goes_bind (mk_top_goes v₃) (λ τ₄ top w₄ v₄ b₄. insert_goes v₄ b₄.state (label_grown w₄ b₃) (list_grown (grown_trans w₂ (grown_trans w₃ w₄)) p).edges))))
