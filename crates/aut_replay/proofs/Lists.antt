-- The operations on transition lists (netkat's ListSteps, on the tables) replay.
use Rattle.std.specs.Prelude.{if◌then◌else◌}
use mathlib.Core.Path.{◌≡◌, refl, ◌∙◌, ap}
use mathlib.Core.Bool.{Bool, true, false}
use mathlib.Core.List.{List, [], ◌∷◌}
use Prim.Native.Nat.{ℕ, suc, ◌≤◌}
use native.Mathlib.Omega.{arith}
use lib.Dec.{eqb, ltb}
use lib.ListN.{length}
use borrow.Author.Tests.{ltb-true, lt-ltb}
use Rattle.common.specs.Outcome.{refused, given, Step, return}
use Rattle.netkat_steps.specs.ListSteps as St
use Rattle.netkat_steps.specs.ListSteps.{Edge, edge, leads_to, unite, enter, enter_in, place, st_singleton, split, insert, insert_each, insert_pairs, st_union, meet_of, st_intersect, Summed, subtract_row, subtract_rows, rest_of, st_difference, st_xor, complement_of, cover_all, st_complement, followed_by, st_postcompose, st_precompose, met_with, st_intersect_expr}
use Rattle.spp_steps.specs.Model as Spp
use Rattle.aut_steps.specs.Relations as Rel
use Rattle.aut_steps.specs.Tables.{Limits, Aut}
use Rattle.aut_steps.specs.Wf.{ExtAut, WfAut}
use Rattle.aut_steps.proofs.Wf.{grown_refl, grown_trans, state_grown}
use Rattle.aut_st_steps.specs.Operations.{ops}
use Rattle.aut_st_steps.specs.Edges.{EdgeAt, EdgesAt, none, also}
use Rattle.aut_st_steps.proofs.Edges.{first_at, rest_at, edge_grown, edges_grown}
use Rattle.aut_st_steps.specs.ListSpec.{ListAt, Label, State, SumAt}
use Rattle.aut_st_steps.proofs.ListSpec.{list_grown, list_empty, label_grown, relation_of, zero_label, enter_in_goes}
use Rattle.aut_replay.specs.Replay.{Wider, Replays, stops, In}
use Rattle.aut_replay.proofs.Runs.{replays_return, replays_map, replays_as, replays_bind, replays_branch, replays_goes}
use Rattle.aut_replay.proofs.Constructors.{apply_replay, sequence_replay, complement_replay, zero_replay, mk_top_replay, mk_union_replay, mk_intersect_replay, mk_difference_replay, mk_complement_replay, mk_sequence_replay}

-- ---- one transition more

pub enter_as : (N : ℕ) (L L' : Limits) (s l : ℕ) (es : List Edge) → enter (ops N L') s l es ≡ enter (ops N L) s l es
unfolding enter
enter_as N L L' s l [] = refl
enter_as N L L' s l (u ∷ us) = ap (λ (fs : List Edge). if ltb s u.target then (edge s l ∷ u ∷ us) else (u ∷ fs)) (enter_as N L L' s l us)

module _ {N : ℕ} {L L' : Limits} (wide : Wider L L') where
  unite_replay : {σ : Aut} → WfAut N L σ → (s l : ℕ) → Label N σ l → {es : List Edge} → EdgesAt N σ es
      → Replays N L' (In N L (λ τ fs. EdgesAt N τ fs × (length fs ≡ length es))) (unite (ops N L') s l es) σ (unite (ops N L) s l es σ)
  unfolding unite
  unite_replay g s l a none = replays_return [] (g, (none, refl))
  unite_replay g s l a (also {e} {es} p q) =
      replays_branch (eqb s e.target) _ _ _ _
      (λ _. replays_bind (apply_replay g (relation_of p) a Spp.union) (λ τ m w (v, b). replays_return _ (v, (also (record { state = state_grown w p.state; relation = b.at }) (edges_grown w q), refl))))
      (λ _. replays_bind (unite_replay g s l a q) (λ τ fs w (v, b). replays_return _ (v, (also (edge_grown w p) b.0, ap suc b.1))))

  module _ {σ : Aut} (g : WfAut N L σ) {s l : ℕ} (x : State σ s) (a : Label N σ l) where
    enter_in_replay : {es : List Edge} → ListAt N L σ es → Replays N L' (In N L (ListAt N L)) (enter_in (ops N L') s l es) σ (enter_in (ops N L) s l es σ)
    unfolding enter_in
    enter_in_replay {es} p = replays_goes (enter_in_goes g x a p) (go (ltb (length es) L.transitions) (ltb (length es) L'.transitions) wider)
      where
        wider : ltb (length es) L.transitions ≡ true → ltb (length es) L'.transitions ≡ true
        wider q = lt-ltb (length es) L'.transitions (omega (arith, ltb-true (length es) L.transitions q, wide.transitions))

        go : (b c : Bool) → (b ≡ true → c ≡ true)
            → Replays N L' (λ τ fs. Unit {0}) (if c then return (enter (ops N L') s l es) else λ σ. refused 9) σ ((if b then return (enter (ops N L) s l es) else λ σ. refused 9) σ)
        go true c f =
            replays_as (λ υ w v. ap (λ (d : Bool). (if d then return (enter (ops N L') s l es) else λ σ. refused 9) υ) (f refl) ∙ ap (given υ) (enter_as N L L' s l es))
            (replays_return (enter (ops N L) s l es) tt)
        go false c f = stops

  module _ {σ : Aut} (g : WfAut N L σ) {s l : ℕ} (x : State σ s) (a : Label N σ l) where
    -- st_insert_helper
    pub place_replay : {es : List Edge} → ListAt N L σ es → Replays N L' (In N L (ListAt N L)) (place (ops N L') s l es) σ (place (ops N L) s l es σ)
    unfolding place
    place_replay {es} p =
        replays_branch (eqb l (Rel.zero_at N)) _ _ _ _ (λ _. replays_return es (g, p))
        (λ _. replays_bind (zero_replay g) (λ τ z w (v, i). replays_branch (eqb s z) _ _ _ _ (λ _. replays_return es (v, list_grown w p))
        (λ _. replays_branch (leads_to (ops N L) s es) _ _ _ _
        (λ _. replays_map (unite_replay v s l (label_grown w a) (edges_grown w p.edges)) (λ τ' fs w' (v', b). (v', record { edges = b.0; short = omega (arith, b.1, p.short) })))
        (λ _. enter_in_replay v (state_grown w x) (label_grown w a) (list_grown w p)))))

    -- st_singleton
    pub st_singleton_replay : 1 ≤ L.transitions → Replays N L' (In N L (ListAt N L)) (st_singleton (ops N L') l s) σ (st_singleton (ops N L) l s σ)
    unfolding st_singleton
    st_singleton_replay few =
        replays_branch (eqb l (Rel.zero_at N)) _ _ _ _ (λ _. replays_return [] (g, list_empty σ))
        (λ _. replays_bind (zero_replay g) (λ τ z w (v, i). replays_branch (eqb s z) _ _ _ _ (λ _. replays_return [] (v, list_empty τ))
        (λ _. replays_return _ (v, record { edges = also (record { state = state_grown w x; relation = (label_grown w a).at }) none; short = few }))))

  -- ---- insertion

  split_replay : {σ : Aut} → WfAut N L σ → {s l : ℕ} → State σ s → Label N σ l → (us : List Edge) → EdgesAt N σ us → {total : ℕ} → Label N σ total → {es : List Edge} → ListAt N L σ es
      → Replays N L' (In N L (ListAt N L)) (split (ops N L') s l us total es) σ (split (ops N L) s l us total es σ)
  unfolding split
  split_replay g x a [] u t p = replays_bind (apply_replay g a t Spp.difference) (λ τ rest w (v, b). place_replay v (state_grown w x) b (list_grown w p))
  split_replay g x a (e ∷ us) u t p =
      replays_bind (apply_replay g a (relation_of (first_at u)) Spp.intersect) (λ τ₁ meet w₁ (v₁, b₁).
      replays_bind (mk_union_replay wide v₁ (state_grown w₁ x) (state_grown w₁ (first_at u).state)) (λ τ₂ both w₂ (v₂, b₂). let w₂₀ = grown_trans w₁ w₂ in
      replays_bind (place_replay v₂ b₂ (label_grown w₂ b₁) (list_grown w₂₀ p)) (λ τ₃ r₁ w₃ (v₃, b₃). let w₃₀ = grown_trans w₂₀ w₃ in
      replays_bind (apply_replay v₃ (label_grown w₃₀ t) (label_grown (grown_trans w₂ w₃) b₁) Spp.union) (λ τ₄ total₁ w₄ (v₄, b₄). let w₄₀ = grown_trans w₃₀ w₄ in
      replays_bind (apply_replay v₄ (label_grown w₄₀ (relation_of (first_at u))) (label_grown (grown_trans w₂ (grown_trans w₃ w₄)) b₁) Spp.difference) (λ τ₅ others w₅ (v₅, b₅). let w₅₀ = grown_trans w₄₀ w₅ in
      replays_bind (place_replay v₅ (state_grown w₅₀ (first_at u).state) b₅ (list_grown (grown_trans w₄ w₅) b₃)) (λ τ₆ r₂ w₆ (v₆, b₆). let w₆₀ = grown_trans w₅₀ w₆ in
      split_replay v₆ (state_grown w₆₀ x) (label_grown w₆₀ a) us (edges_grown w₆₀ (rest_at u)) (label_grown (grown_trans w₅ w₆) b₄) b₆))))))

  -- st_insert
  pub insert_replay : {σ : Aut} → WfAut N L σ → {s l : ℕ} → State σ s → Label N σ l → {es : List Edge} → EdgesAt N σ es
      → Replays N L' (In N L (ListAt N L)) (insert (ops N L') s l es) σ (insert (ops N L) s l es σ)
  unfolding insert
  insert_replay {σ} g x a {es} e = split_replay g x a es e (zero_label g) (list_empty σ)

-- ---- insertion of many

-- what is made of a transition is made again, in all tables that have grown
abbrev Maker : ℕ → Limits → Limits → Aut → (Edge → Step Aut Edge) → (Edge → Step Aut Edge) → Type 0
Maker N L L' σ make make' = (τ : Aut) (e : Edge) → ExtAut σ τ → WfAut N L τ → EdgeAt N τ e → Replays N L' (In N L (EdgeAt N)) (make' e) τ (make e τ)

module _ {N : ℕ} {L L' : Limits} (wide : Wider L L') where
  insert_each_replay : {σ : Aut} → WfAut N L σ → (make make' : Edge → Step Aut Edge) → Maker N L L' σ make make' → (ts : List Edge) → EdgesAt N σ ts → {es : List Edge} → ListAt N L σ es
      → Replays N L' (In N L (ListAt N L)) (insert_each (ops N L') make' ts es) σ (insert_each (ops N L) make ts es σ)
  unfolding insert_each
  insert_each_replay g make make' f [] a {es} p = replays_return es (g, p)
  insert_each_replay {σ} g make make' f (t ∷ ts) a p =
      replays_bind (f σ t (grown_refl σ) g (first_at a)) (λ τ₁ new w₁ (v₁, b₁).
      replays_bind (insert_replay wide v₁ b₁.state (relation_of b₁) (list_grown w₁ p).edges) (λ τ₂ r w₂ (v₂, b₂). let w = grown_trans w₁ w₂ in
      insert_each_replay v₂ make make' (λ υ e w' v q. f υ e (grown_trans w w') v q) ts (edges_grown w (rest_at a)) b₂))

  insert_pairs_replay : {σ : Aut} → WfAut N L σ → (make make' : Edge → Edge → Step Aut Edge)
      → ((τ : Aut) (t : Edge) → ExtAut σ τ → WfAut N L τ → EdgeAt N τ t → Maker N L L' τ (make t) (make' t))
      → (ts us : List Edge) → EdgesAt N σ ts → EdgesAt N σ us → {es : List Edge} → ListAt N L σ es
      → Replays N L' (In N L (ListAt N L)) (insert_pairs (ops N L') make' ts us es) σ (insert_pairs (ops N L) make ts us es σ)
  unfolding insert_pairs
  insert_pairs_replay g make make' f [] us a b {es} p = replays_return es (g, p)
  insert_pairs_replay {σ} g make make' f (t ∷ ts) us a b p =
      replays_bind (insert_each_replay g (make t) (make' t) (f σ t (grown_refl σ) g (first_at a)) us b p) (λ τ r w (v, q).
      insert_pairs_replay v make make' (λ υ e w' v' h. f υ e (grown_trans w w') v' h) ts us (edges_grown w (rest_at a)) (edges_grown w b) q)

  -- ---- what is made of a transition

  return_makes : (σ : Aut) → Maker N L L' σ return return
  return_makes σ τ e w v p = replays_return e (v, p)

  follow_makes : {σ : Aut} {x : ℕ} → State σ x → Maker N L L' σ (followed_by (ops N L) x) (followed_by (ops N L') x)
  follow_makes i τ e w v p =
      replays_bind (mk_sequence_replay v p.state (state_grown w i)) (λ υ z w' (v', b). replays_return _ (v', record { state = b; relation = (label_grown w' (relation_of p)).at }))

  meet_with_makes : {σ : Aut} {x : ℕ} → State σ x → Maker N L L' σ (met_with (ops N L) x) (met_with (ops N L') x)
  meet_with_makes i τ e w v p =
      replays_bind (mk_intersect_replay wide v p.state (state_grown w i)) (λ υ z w' (v', b). replays_return _ (v', record { state = b; relation = (label_grown w' (relation_of p)).at }))

  complement_makes : (σ : Aut) → Maker N L L' σ (complement_of (ops N L)) (complement_of (ops N L'))
  complement_makes σ τ e w v p =
      replays_bind (mk_complement_replay v p.state) (λ υ z w' (v', b). replays_return _ (v', record { state = b; relation = (label_grown w' (relation_of p)).at }))

  after_makes : {σ : Aut} {l : ℕ} → Label N σ l → Maker N L L' σ (St.after (ops N L) l) (St.after (ops N L') l)
  after_makes a τ e w v p = replays_bind (sequence_replay v (label_grown w a) (relation_of p)) (λ υ m w' (v', b). replays_return _ (v', record { state = state_grown w' p.state; relation = b.at }))

  rest_makes : {σ : Aut} {sum : ℕ} → Label N σ sum → Maker N L L' σ (rest_of (ops N L) sum) (rest_of (ops N L') sum)
  rest_makes a τ e w v p =
      replays_bind (apply_replay v (relation_of p) (label_grown w a) Spp.difference) (λ υ m w' (v', b). replays_return _ (v', record { state = state_grown w' p.state; relation = b.at }))

  meet_makes : (σ : Aut) (t : Edge) → EdgeAt N σ t → Maker N L L' σ (meet_of (ops N L) t) (meet_of (ops N L') t)
  meet_makes σ t q τ e w v p =
      replays_bind (mk_intersect_replay wide v (state_grown w q.state) p.state) (λ τ₁ x w₁ (v₁, b₁).
      replays_bind (apply_replay v₁ (relation_of (edge_grown (grown_trans w w₁) q)) (relation_of (edge_grown w₁ p)) Spp.intersect) (λ τ₂ m w₂ (v₂, b₂).
      replays_return _ (v₂, record { state = state_grown w₂ b₁; relation = b₂.at })))

  -- ---- the operations

  module _ {σ : Aut} (g : WfAut N L σ) where
    module _ {ts us : List Edge} (a : EdgesAt N σ ts) (b : EdgesAt N σ us) where
      pub st_union_replay : Replays N L' (In N L (ListAt N L)) (st_union (ops N L') ts us) σ (st_union (ops N L) ts us σ)
      unfolding st_union
      st_union_replay =
          replays_bind (insert_each_replay g return return (return_makes σ) ts a (list_empty σ)) (λ τ r w (v, p). insert_each_replay v return return (return_makes τ) us (edges_grown w b) p)

      pub st_intersect_replay : Replays N L' (In N L (ListAt N L)) (st_intersect (ops N L') ts us) σ (st_intersect (ops N L) ts us σ)
      unfolding st_intersect
      st_intersect_replay = insert_pairs_replay g (meet_of (ops N L)) (meet_of (ops N L')) (λ τ t w v p. meet_makes τ t p) ts us a b (list_empty σ)

    module _ {ts : List Edge} (a : EdgesAt N σ ts) {x : ℕ} (i : State σ x) where
      pub st_postcompose_replay : Replays N L' (In N L (ListAt N L)) (st_postcompose (ops N L') ts x) σ (st_postcompose (ops N L) ts x σ)
      unfolding st_postcompose
      st_postcompose_replay = insert_each_replay g (followed_by (ops N L) x) (followed_by (ops N L') x) (follow_makes i) ts a (list_empty σ)

      pub st_intersect_expr_replay : Replays N L' (In N L (ListAt N L)) (st_intersect_expr (ops N L') ts x) σ (st_intersect_expr (ops N L) ts x σ)
      unfolding st_intersect_expr
      st_intersect_expr_replay = insert_each_replay g (met_with (ops N L) x) (met_with (ops N L') x) (meet_with_makes i) ts a (list_empty σ)

    pub st_precompose_replay : {l : ℕ} → Label N σ l → {ts : List Edge} → EdgesAt N σ ts → Replays N L' (In N L (ListAt N L)) (st_precompose (ops N L') l ts) σ (st_precompose (ops N L) l ts σ)
    unfolding st_precompose
    st_precompose_replay {l} i {ts} a = insert_each_replay g (St.after (ops N L) l) (St.after (ops N L') l) (after_makes i) ts a (list_empty σ)

-- ---- st_difference

module _ {N : ℕ} {L L' : Limits} (wide : Wider L L') where
  subtract_row_replay : {σ : Aut} → WfAut N L σ → {t : Edge} → EdgeAt N σ t → (us : List Edge) → EdgesAt N σ us → {s : Summed} → SumAt N L σ s
      → Replays N L' (In N L (SumAt N L)) (subtract_row (ops N L') t us s) σ (subtract_row (ops N L) t us s σ)
  unfolding subtract_row
  subtract_row_replay g q [] b {s} p = replays_return s (g, p)
  subtract_row_replay g q (u ∷ us) b p =
      replays_bind (mk_difference_replay g q.state (first_at b).state) (λ τ₁ x w₁ (v₁, b₁).
      replays_bind (apply_replay v₁ (relation_of (edge_grown w₁ q)) (relation_of (edge_grown w₁ (first_at b))) Spp.intersect) (λ τ₂ m w₂ (v₂, b₂).
      replays_bind (apply_replay v₂ (label_grown (grown_trans w₁ w₂) p.sum) b₂ Spp.union) (λ τ₃ sum₁ w₃ (v₃, b₃).
      replays_bind (insert_replay wide v₃ (state_grown (grown_trans w₂ w₃) b₁) (label_grown w₃ b₂) (list_grown (grown_trans w₁ (grown_trans w₂ w₃)) p.result).edges) (λ τ₄ r w₄ (v₄, b₄).
      let w = grown_trans w₁ (grown_trans w₂ (grown_trans w₃ w₄)) in
      subtract_row_replay v₄ (edge_grown w q) us (edges_grown w (rest_at b)) (record { sum = label_grown w₄ b₃; result = b₄ })))))

  subtract_rows_replay : {σ : Aut} → WfAut N L σ → (ts us : List Edge) → EdgesAt N σ ts → EdgesAt N σ us → {s : Summed} → SumAt N L σ s
      → Replays N L' (In N L (SumAt N L)) (subtract_rows (ops N L') ts us s) σ (subtract_rows (ops N L) ts us s σ)
  unfolding subtract_rows
  subtract_rows_replay g [] us a b {s} p = replays_return s (g, p)
  subtract_rows_replay g (t ∷ ts) us a b p =
      replays_bind (subtract_row_replay g (first_at a) us b p) (λ τ r w (v, q). subtract_rows_replay v ts us (edges_grown w (rest_at a)) (edges_grown w b) q)

  module _ {σ : Aut} (g : WfAut N L σ) where
    pub st_difference_replay : {ts us : List Edge} → EdgesAt N σ ts → EdgesAt N σ us → Replays N L' (In N L (ListAt N L)) (st_difference (ops N L') ts us) σ (st_difference (ops N L) ts us σ)
    unfolding st_difference
    st_difference_replay {ts} {us} a b =
        replays_bind (subtract_rows_replay g ts us a b (record { sum = zero_label g; result = list_empty σ })) (λ τ s w (v, p).
        insert_each_replay wide v (rest_of (ops N L) s.sum) (rest_of (ops N L') s.sum) (rest_makes wide p.sum) ts (edges_grown w a) p.result)

  module _ {σ : Aut} (g : WfAut N L σ) where
    -- st_xor
    pub st_xor_replay : {ts us : List Edge} → EdgesAt N σ ts → EdgesAt N σ us → Replays N L' (In N L (ListAt N L)) (st_xor (ops N L') ts us) σ (st_xor (ops N L) ts us σ)
    unfolding st_xor
    st_xor_replay a b =
        replays_bind (st_difference_replay g a b) (λ τ₁ left w₁ (v₁, p).
        replays_bind (st_difference_replay v₁ (edges_grown w₁ b) (edges_grown w₁ a)) (λ τ₂ right w₂ (v₂, q). st_union_replay wide v₂ (list_grown w₂ p).edges q.edges))

  -- ---- st_complement

  cover_all_replay : {σ : Aut} → WfAut N L σ → (ts : List Edge) → EdgesAt N σ ts → {sum : ℕ} → Label N σ sum → Replays N L' (In N L (Label N)) (cover_all (ops N L') ts sum) σ (cover_all (ops N L) ts sum σ)
  unfolding cover_all
  cover_all_replay g [] a {sum} p = replays_return sum (g, p)
  cover_all_replay g (t ∷ ts) a p = replays_bind (apply_replay g p (relation_of (first_at a)) Spp.union) (λ τ m w (v, b). cover_all_replay v ts (edges_grown w (rest_at a)) b)

  module _ {σ : Aut} (g : WfAut N L σ) where
    pub st_complement_replay : {ts : List Edge} → EdgesAt N σ ts → Replays N L' (In N L (ListAt N L)) (st_complement (ops N L') ts) σ (st_complement (ops N L) ts σ)
    unfolding st_complement
    st_complement_replay {ts} a =
        replays_bind (insert_each_replay wide g (complement_of (ops N L)) (complement_of (ops N L')) (complement_makes wide σ) ts a (list_empty σ)) (λ τ₁ r w₁ (v₁, p).
        replays_bind (cover_all_replay v₁ ts (edges_grown w₁ a) (zero_label v₁)) (λ τ₂ covered w₂ (v₂, b₂).
        replays_bind (complement_replay v₂ b₂) (λ τ₃ rest w₃ (v₃, b₃).
        replays_bind (mk_top_replay v₃) (λ τ₄ top w₄ (v₄, b₄). insert_replay wide v₄ b₄ (label_grown w₄ b₃) (list_grown (grown_trans w₂ (grown_trans w₃ w₄)) p).edges))))
