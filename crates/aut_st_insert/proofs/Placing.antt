-- A transition placed in a list: its label united with that of the same target, or a new record by ascending targets.
use Rattle.std.specs.Prelude.{if◌then◌else◌, Result, Ok, Err}
use mathlib.Core.Path.{◌≡◌, refl, sym, ◌∙◌, ap, ap₂, subst}
use mathlib.Core.Bool.{Bool, true, false}
use mathlib.Core.List.{List}
use Prim.Native.Nat.{ℕ, ◌+◌, ◌*◌, ◌≤◌, ◌<◌}
use native.Mathlib.Omega.{arith}
use lib.Dec.{eqb, ltb}
use lib.ListN.{length, get_or, set, length-set}
use lib.Seq.{get_or-set_other}
use borrow.Author.Tests.{eq-eqb, ne_eqb, lt-ltb, le-ltb}
use Rattle.common.specs.Outcome.{Outcome, refused, given, Step, return, after}
use Rattle.refusal.specs.declared.Refusal.{Refusal}
use Rattle.refusal.specs.declared.Refusal.TheVariants.{TransitionList}
use Rattle.refusal.specs.Numbers.{number_of, outcome}
use Rattle.netkat_steps.specs.ListSteps as St
use Rattle.netkat_steps.specs.ListSteps.{Edge, edge, unite, enter_in}
use Rattle.spp_steps.proofs.Laws.{ext_refl}
use Rattle.spp.specs.declared.SPP.{SPP}
use Rattle.aut_steps.specs.Tables as T
use Rattle.aut_steps.specs.Tables.{Aut, on_nodes, on_states}
use Rattle.aut_steps.specs.Relations as Rel
use Rattle.aut_steps.specs.Constructors.{mk_spp}
use Rattle.aut_steps.specs.Scratch.{Kept}
use Rattle.aut_steps.proofs.Scratch.{kept_wide}
use Rattle.aut_steps.proofs.StepSpec.{StepSpec}
use Rattle.aut_st_steps.specs.Operations.{ops}
use Rattle.aut_st_steps.specs.Edges.{edges}
use Rattle.aut_st_steps.proofs.Edges.{edge_grown}
use Rattle.aut_st_steps.specs.ListSpec.{ListAt, State}
use Rattle.aut_st_steps.proofs.ListSpec.{relation_of, zero_state_goes}
use Rattle.aut_st_steps.specs.Places.{seek_target}
use Rattle.aut_st_steps.proofs.Places.{edges_length, edge_at_lem, leads, leads_not, unite_at, relabelled}
use Rattle.aut_st_steps.specs.InsertSteps.{place_in}
use Rattle.aut_st_steps.proofs.InsertSteps.{place_is, place_in_goes}
use Rattle.aut_states.specs.Clauses.{limits_of}
use Rattle.aut_states.specs.declared.Config.{Config}
use Rattle.aut_relations.specs.Behind.{LISTS, Modifies}
use Rattle.aut_relations.proofs.Behind.{left_any, left_trans, left_kept}
use Rattle.aut_relations.specs.declared.Aut.{Aut as Lent}
use Rattle.aut_relations.specs.Lent.{nodes_in, states_in, aut_in, KeepsExprs, Does, Handles}
use Rattle.aut_stage.specs.OnLent.{Goes}
use Rattle.aut_stage.proofs.OnLent.{lent_laws, by_law, on_all}
use Rattle.aut_stage.proofs.Rule.{all_of, begin, instead, next, stuck, finish, done}
use Rattle.aut_st_edges.specs.Clauses.{Wrote}
use Rattle.aut_st_insert.specs.Clauses.{RESULT, list_in}
use Rattle.aut_st_insert.specs.Asked.{PlaceAsked}
use Rattle.aut_relations.proofs.Kept.{same_refl}
use Rattle.aut_st_insert.proofs.Join.{edges_behind, ready_few, list_same, list_after}
use Rattle.aut_st_insert.proofs.Calls.{Run, anywhere, handles, StatesOnly, on_states_goes}

-- ---- place_in

-- the i-th transition leads to x, and its label is united with h
united : (N : ℕ) (L : T.Limits) (s : List ℕ) (m x h i : ℕ) → 2 * (RESULT + m) ≤ length s → seek_target x (edges s RESULT m) ≡ i → i < m → (σ : Aut) (o : Outcome Aut ℕ)
    → (ops N L).union (get_or s (2 * (RESULT + i) + 1) 0) h σ ≡ o → place_in N L x h (edges s RESULT m) σ ≡ after o (λ k. return (relabelled s RESULT m i k))
unfolding place_in
united N L s m x h i r e lt σ o q =
    ap (λ (b : Bool). (if b then unite (ops N L) x h (edges s RESULT m) else enter_in (ops N L) x h (edges s RESULT m)) σ) (leads (ops N L) x (edges s RESULT m) (omega (arith, e, edges_length s RESULT m)))
    ∙ unite_at (ops N L) x h s RESULT m i σ r e lt o q

-- none does
new_one : (N : ℕ) (L : T.Limits) (s : List ℕ) (m x h i : ℕ) → seek_target x (edges s RESULT m) ≡ i → m ≤ i → (b : Bool) → ltb m L.transitions ≡ b → (σ : Aut)
    → place_in N L x h (edges s RESULT m) σ ≡ (if b then given σ (St.enter (ops N L) x h (edges s RESULT m)) else refused 9)
unfolding place_in enter_in
new_one N L s m x h i e le b q σ =
    ap (λ (b : Bool). (if b then unite (ops N L) x h (edges s RESULT m) else enter_in (ops N L) x h (edges s RESULT m)) σ) (leads_not (ops N L) x (edges s RESULT m) (omega (arith, e, edges_length s RESULT m)))
    ∙ ap (λ (k : ℕ). (if ltb k L.transitions then return (St.enter (ops N L) x h (edges s RESULT m)) else λ σ. refused 9) σ) (edges_length s RESULT m)
    ∙ go b q
  where
    go : (b : Bool) → ltb m L.transitions ≡ b → (if ltb m L.transitions then return (St.enter (ops N L) x h (edges s RESULT m)) else λ σ. refused 9) σ ≡ (if b then given σ (St.enter (ops N L) x h (edges s RESULT m)) else refused 9)
    go true q = ap (λ (b : Bool). (if b then return (St.enter (ops N L) x h (edges s RESULT m)) else λ σ. refused 9) σ) q
    go false q = ap (λ (b : Bool). (if b then return (St.enter (ops N L) x h (edges s RESULT m)) else λ σ. refused 9) σ) q

module _ {k : Config} {a : Lent} {m x h : ℕ} (R : PlaceAsked k a m (edge x h)) where
  abbrev L : T.Limits
  L = limits_of k.limits

  abbrev step : Step Aut (List Edge)
  step = place_in k.fields L x h (list_in a m)

  pub few : m ≤ 64
  few = ready_few R.list

  pub room : LISTS ≤ length a.scratch.now
  room = R.list.asked.ready.room

  law : StepSpec k.fields L (ListAt k.fields L) (aut_in a) (step (aut_in a))
  law = place_in_goes R.list.asked.ready.good R.edge.state (relation_of R.edge) R.list.list

  module _ {i : ℕ} (S : (seek_target x (list_in a m) ≡ i) × (i < length (list_in a m))) where
    pub lt : i < m
    lt = omega (arith, S.1, edges_length a.scratch.now RESULT m)

    abbrev j : ℕ
    j = 2 * (RESULT + i) + 1

    pub place_handles : Handles k.fields a (get_or a.scratch.now j 0) h
    place_handles = handles R.list.asked (relation_of (edge_at_lem a.scratch.now RESULT m i lt R.list.list.edges)) (relation_of R.edge)

    module _ {b : Lent} (K : KeepsExprs a b) where
      pub full : {V : Type 0} {see : V → List Edge} {e : Refusal} {c : Lent} → Does k.fields 0 0 nodes_in (λ (u : SPP). u.0) (Rel.union k.fields (get_or a.scratch.now j 0) h) a (Err e) b → Goes k 576 128 (ListAt k.fields L) see step a (Err e) c
      full {e = e} D = record { post = record { is = united k.fields L a.scratch.now m x h i (omega (arith, few, room)) S.0 lt (aut_in a) (refused (number_of e)) (on_all K D).is; then = tt } }

      module _ {u : SPP} (D : Does k.fields 0 0 nodes_in (λ (u : SPP). u.0) (Rel.union k.fields (get_or a.scratch.now j 0) h) a (Ok u) b) where
        same : list_in b m ≡ list_in a m
        same = edges_behind D.left RESULT m (omega arith) (omega (arith, few))

        kept_2 : Kept 576 128 b.scratch.now (set b.scratch.now j u.0)
        kept_2 = record {
          below = λ p l. get_or-set_other b.scratch.now j p u.0 0 (λ q. omega arith);
          above = λ p l. get_or-set_other b.scratch.now j p u.0 0 (λ q. omega (arith, few));
        }

        relabels_is : step (aut_in a) ≡ given (aut_in b) (edges (set b.scratch.now j u.0) RESULT m)
        relabels_is =
            ap (λ (fs : List Edge). place_in k.fields L x h fs (aut_in a)) (sym same)
            ∙ united k.fields L b.scratch.now m x h i (omega (arith, few, room, K.scratch.length)) (ap (seek_target x) same ∙ S.0) lt (aut_in a) (given (aut_in b) u.0)
            (ap (λ (g : ℕ). on_nodes (Rel.union k.fields g h) (aut_in a)) (D.left.above j (omega arith) (omega (arith, few))) ∙ (on_all K D).is)

        relabels_left : Modifies k.fields 576 128 (nodes_in b) a.scratch.now (set b.scratch.now j u.0)
        relabels_left = left_trans (ext_refl (nodes_in b)) (left_any 576 128 D.left (omega arith)) (left_kept kept_2 (simp length-set) (omega arith))

        -- the label is written
        pub relabels : {c : Lent} → aut_in c ≡ aut_in b → c.scratch.now ≡ set b.scratch.now j u.0 → Goes k 576 128 (ListAt k.fields L) (list_in c) step a (Ok m) c
        relabels {c} e q = record {
          post = by_law R.list.asked c (ap length q ∙ (simp length-set) ∙ K.scratch.length) law (Ok m) (relabels_is ∙ ap₂ (λ (τ : Aut) (s : List ℕ). given τ (edges s RESULT m)) (sym e) (sym q))
              (subst (λ (τ : Aut). Modifies k.fields 576 128 τ.nodes a.scratch.now c.scratch.now) (sym e) (subst (λ (s : List ℕ). Modifies k.fields 576 128 (nodes_in b) a.scratch.now s) (sym q) relabels_left));
        }

  module _ (S : seek_target x (list_in a m) ≡ length (list_in a m)) where
    none : seek_target x (list_in a m) ≡ m
    none = S ∙ edges_length a.scratch.now RESULT m

    pub too_long : k.limits.transitions ≤ m → {V : Type 0} {see : V → List Edge} {c : Lent} → Goes k 576 128 (ListAt k.fields L) see step a (Err TransitionList) c
    too_long f = record { post = record { is = new_one k.fields L a.scratch.now m x h m none (omega arith) false (le-ltb m k.limits.transitions f) (aut_in a); then = tt } }

    pub enters : m < k.limits.transitions → {c : Lent} → ((N : ℕ) (L : T.Limits) → Wrote RESULT (m + 1) (St.enter (ops N L) x h (list_in a m)) a.scratch.now c.scratch.now) → aut_in c ≡ aut_in a → length c.scratch.now ≡ length a.scratch.now
        → Goes k 576 128 (ListAt k.fields L) (list_in c) step a (Ok (m + 1)) c
    enters f {c} W e len = record {
      post = by_law R.list.asked c len law (Ok (m + 1))
          (new_one k.fields L a.scratch.now m x h m none (omega arith) true (lt-ltb m k.limits.transitions f) (aut_in a) ∙ ap₂ (λ (τ : Aut) (fs : List Edge). given τ fs) (sym e) (sym (W k.fields L).is))
          (left_kept (kept_wide (W k.fields L).kept (omega arith) (omega (arith, few, R.list.limit))) len (omega arith));
    }

-- ---- place

module _ {k : Config} {a : Lent} {m x h : ℕ} (R : PlaceAsked k a m (edge x h)) {z : ℕ} (z-is : Rel.zero_at k.fields ≡ z) where
  abbrev all : Step Aut (List Edge)
  all = St.place (ops k.fields (limits_of k.limits)) x h (list_in a m)

  abbrev behind : ℕ → Step Aut (List Edge)
  behind i = if eqb x i then return (list_in a m) else place_in k.fields (limits_of k.limits) x h (list_in a m)

  stage : (b : Bool) → eqb h (Rel.zero_at k.fields) ≡ b → Run k 576 128 all a (if b then given (aut_in a) (list_in a m) else after (on_states (mk_spp (Rel.zero_at k.fields)) (aut_in a)) behind) a
  stage b q = begin (lent_laws k.fields k.limits) 576 128 R.list.asked.ready
      (place_is k.fields (limits_of k.limits) x h (list_in a m) (aut_in a) ∙ ap (λ (b : Bool). if b then given (aut_in a) (list_in a m) else after (on_states (mk_spp (Rel.zero_at k.fields)) (aut_in a)) behind) q)

  -- the test of the label
  test : {b : Bool} → eqb h z ≡ b → eqb h (Rel.zero_at k.fields) ≡ b
  test e = ap (eqb h) z-is ∙ e

  pub no_label : eqb h z ≡ true → Goes k 576 128 (ListAt k.fields (limits_of k.limits)) (list_in a) all a (Ok m) a
  no_label e = record { post = done (lent_laws k.fields k.limits) 576 128 (stage true (test e)) R.list.list }

  module _ (ne : eqb h z ≡ false) where
    stage_0 : Run k 576 128 all a (after (on_states (mk_spp (Rel.zero_at k.fields)) (aut_in a)) behind) a
    stage_0 = stage false (test ne)

    noted : {b : Lent} → StatesOnly a b → (r : Result ℕ Refusal) → mk_spp z (states_in a) ≡ outcome (λ i. i) r (states_in b) → Goes k 0 0 State (λ i. i) (on_states (mk_spp (Rel.zero_at k.fields))) a r b
    noted U r e = on_states_goes (mk_spp (Rel.zero_at k.fields)) (λ i. i) r R.list.asked (zero_state_goes R.list.asked.ready.good) U (ap (λ (g : ℕ). mk_spp g (states_in a)) z-is ∙ e)

    pub not_noted : {V : Type 0} {see : V → List Edge} {e : Refusal} {c : Lent} → mk_spp z (states_in a) ≡ refused (number_of e) → Goes k 576 128 (ListAt k.fields (limits_of k.limits)) see all a (Err e) c
    not_noted {e = e} D = record { post = stuck (lent_laws k.fields k.limits) 576 128 (noted {b = a} (record { spp = refl; members = refl; scratch = refl }) (Err e) D).post behind stage_0 }

    module _ {b : Lent} (U : StatesOnly a b) {i : ℕ} (D : mk_spp z (states_in a) ≡ given (states_in b) i) where
      same_b : list_in b m ≡ list_in a m
      same_b = list_same R.list (noted U (Ok i) D) (omega arith)

      stage_1 : (t : Bool) → eqb x i ≡ t → Run k 576 128 all a ((if t then return (list_in b m) else place_in k.fields (limits_of k.limits) x h (list_in b m)) (aut_in b)) b
      stage_1 t q = instead (lent_laws k.fields k.limits) 576 128 (next (lent_laws k.fields k.limits) 576 128 (anywhere 576 128 (omega arith) (noted U (Ok i) D)).post (all_of 576 128) behind stage_0)
          (ap₂ (λ (t : Bool) (fs : List Edge). (if t then return fs else place_in k.fields (limits_of k.limits) x h fs) (aut_in b)) q (sym same_b))

      pub in_asked : PlaceAsked k b m (edge x h)
      in_asked = record { list = list_after R.list (noted U (Ok i) D) (omega arith) (rw U.spp (same_refl a.spp)); edge = edge_grown (noted U (Ok i) D).post.then.ext.grown R.edge }

      pub no_state : x ≡ i → Goes k 576 128 (ListAt k.fields (limits_of k.limits)) (list_in b) all a (Ok m) b
      no_state q = record { post = done (lent_laws k.fields k.limits) 576 128 (stage_1 true (eq-eqb x i q)) in_asked.list.list }

      pub placed_in : (x ≡ i → ⊥) → {r : Result ℕ Refusal} {c : Lent} → Goes k 576 128 (ListAt k.fields (limits_of k.limits)) (list_in c) (place_in k.fields (limits_of k.limits) x h (list_in b m)) b r c
          → Goes k 576 128 (ListAt k.fields (limits_of k.limits)) (list_in c) all a r c
      placed_in q {r} g = record { post = finish (lent_laws k.fields k.limits) 576 128 (stage_1 false (ne_eqb x i q)) r g.post (all_of 576 128) }
