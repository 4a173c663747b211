-- The loop over a stored list.
use Rattle.std.specs.Prelude.{if◌then◌else◌}
use mathlib.Core.Path.{◌≡◌, refl, sym, ◌∙◌, ap, ap₂, subst}
use mathlib.Core.Bool.{Bool, true, false}
use mathlib.Core.List.{List, [], ◌∷◌, ◌++◌, Memᴰ}
use Prim.Native.Nat.{ℕ, ◌+◌, ◌*◌, ◌-◌, ◌≤◌, ◌<◌}
use native.Mathlib.Omega.{arith}
use lib.Dec.{eqb}
use lib.ListN.{length}
use Rattle.std.specs.Prelude.{Ok, Err}
use Rattle.common.specs.Outcome.{after, given}
use Rattle.refusal.specs.declared.Refusal.{Refusal}
use Rattle.netkat_steps.specs.ListSteps.{Edge, edge}
use Rattle.sp_steps.specs.Wf as SpLaws
use Rattle.spp_steps.specs.Wf.{ValidAt}
use Rattle.spp_steps.proofs.Laws.{at_ext}
use Rattle.spp.specs.declared.SPP.{SPP}
use Rattle.aut_steps.specs.Relations as Rel
use Rattle.aut_steps.specs.Tables.{Aut}
use Rattle.aut_st_steps.specs.Edges.{edges, EdgeAt, EdgesAt, none, also}
use Rattle.aut_st_steps.proofs.Edges.{edges_grown}
use Rattle.aut_st_steps.proofs.Places.{edge_at, edges_length, edges_same, edges_on, edges_done, edge_at_lem}
use Rattle.aut_delta_steps.specs.Delta.{count_of, list_at}
use Rattle.aut_delta_steps.proofs.ListGoes.{list_at_lem}
use Rattle.aut_delta_stage.specs.OnTables.{store_in}
use Rattle.aut_query_steps.specs.Tables.{Tables, live_of}
use Rattle.aut_query_steps.specs.Pruned as M
use Rattle.aut_query_stage.specs.Lent.{tables_in, query_layer, GoesQuery}
use Rattle.aut_query_stage.proofs.Lent.{query_laws}
use Rattle.aut_states.specs.Clauses.{limits_of}
use Rattle.aut_states.specs.declared.Config.{Config}
use Rattle.aut_relations.specs.declared.Aut.{Aut as Lent}
use Rattle.aut_relations.specs.declared.Transitions.{Transitions}
use Rattle.aut_st_edges.specs.Clauses.{edge_of}
use Rattle.aut_st_edges.specs.declared.Transition.{Transition}
use Rattle.aut_st_source.specs.declared.Span.{Span}
use Rattle.aut_st_source.specs.Stored.{PreFind, PostFind}
use Rattle.aut_relations.specs.Lent.{nodes_in, aut_in, KeepsExprs}
use Rattle.aut_relations.proofs.Kept.{keeps_refl, keeps_trans, keeps_more}
use Rattle.aut_stage.specs.Rule.{Post, Stage}
use Rattle.aut_stage.proofs.Rule.{Turned, begin, next, stuck, instead, wrote, done, turn, over, again, all_of}
use Rattle.aut_sets.specs.Lent.{sets_in, OnlyScratch}
use Rattle.aut_query_calls.specs.Working.{RelIn}
use Rattle.aut_query_calls.proofs.Listed.{edge_in}
use Rattle.aut_st_insert.specs.Clauses.{RESULT}
use Rattle.aut_pruned.specs.Onto.{behind}
use Rattle.aut_pruned.specs.Clauses.{ViableAsked, PreKeep, PostKeep, PruneAsked, PrunesAll}
use Rattle.aut_pruned.proofs.Onto.{prune_onto, prune_one, prune_folds, prune_is}

edges_behind : {N : ℕ} {σ : Aut} (es : List Edge) {e : Edge} → EdgesAt N σ es → EdgeAt N σ e → EdgesAt N σ (es ++ e ∷ [])
edges_behind [] p q = also q none
edges_behind (f ∷ fs) (also p ps) q = also p (edges_behind fs ps q)

-- what the loop keeps: nothing is written yet; a label was cut, and kept
keeps_on : {x y z w : Lent} → KeepsExprs x y → KeepsExprs y z → OnlyScratch z w → KeepsExprs x w
keeps_on K L O = keeps_trans K (keeps_trans L (keeps_more (record { sp = refl; spp = refl; states = refl; count = refl; members = refl; transitions = refl; pending = refl; scratch = refl }) O))

-- j of the labels of i's list in x are cut, and m of them kept
pub record Cutting (k : Config) (x : Lent) (i : ℕ) (list : Span) (y : Lent) (m j : ℕ) : Type 0 where
  pub turned : Turned (query_layer k.fields k.limits) 0 1088 (prune_onto k.fields) (λ j. edges x.transitions.words.now (list.start + j) (list.count - j)) list.count (λ τ es. EdgesAt k.fields τ.base.aut es) (M.prune k.fields (list_at (store_in x) i) (tables_in x))
      (tables_in x) (tables_in y) x.scratch.now y.scratch.now (edges y.scratch.now RESULT m) j
  pub keeps : KeepsExprs x y
  pub few : m ≤ j

module _ {k : Config} {x : Lent} {i : ℕ} (P : PruneAsked k x i) where
  abbrev st : List ℕ
  st = x.states.words.now

  abbrev tr : List ℕ
  tr = x.transitions.words.now

  -- ---- what holds of the list

  some : 0 < count_of st i
  some = P.ready.ordered.lives.listed i P.has P.marked

  pub prune_find : PreFind st i
  prune_find = record { state = omega (arith, P.has, P.ready.ready.good.fits); has = some }

  -- where it is stored
  module _ {list : Span} (F : PostFind st i list) where
    list_is : list_at (store_in x) i ≡ edges tr list.start list.count
    unfolding list_at
    list_is = ap₂ (λ (a n : ℕ). edges tr a n) F.start (omega (arith, F.count))

    inside : 2 * (list.start + list.count) ≤ length tr
    inside = omega (arith, F.start, F.count, (P.ready.ordered.worked.lists.held i P.has).inside (count_of st i - 1) (omega (arith, some)), P.ready.ordered.worked.lists.fit)

    short : list.count ≤ 64
    short = omega (arith, F.count, (P.ready.ordered.worked.lists.held i P.has).short, P.ready.limit)

    known : EdgesAt k.fields (aut_in x) (edges tr list.start list.count)
    known = subst (EdgesAt k.fields (aut_in x)) list_is (list_at_lem (limits_of k.limits) ((P.ready.ordered.worked.lists.held i P.has).list some))

    module _ {j : ℕ} (lt : j < list.count) where
      abbrev e : Edge
      e = edge_at tr (list.start + j)

      entry_known : EdgeAt k.fields (aut_in x) e
      entry_known = edge_at_lem tr list.start list.count j lt known

      entry_marked : 0 < live_of st e.target
      entry_marked = P.ready.ordered.lives.onward i P.has P.marked e (subst (λ (es : List Edge). Memᴰ e es) (sym list_is) (edge_in tr list.start list.count j lt))

      entry_live : SpLaws.ValidAt (sets_in x) k.fields (live_of st e.target - 1)
      entry_live = (P.ready.ordered.lives.kept e.target entry_known.state (live_of st e.target - 1) (omega (arith, entry_marked))).den.at

    -- ---- the loop

    pub prune_begin : Cutting k x i list x 0 0
    unfolding edges
    prune_begin = record {
      turned = record {
        most = omega arith;
        stage = begin (query_laws k.fields k.limits) 0 1088 P.ready (prune_is k.fields (list_at (store_in x) i) (tables_in x)
            ∙ ap (λ (es : List Edge). prune_onto k.fields es [] (tables_in x)) list_is
            ∙ ap₂ (λ (a n : ℕ). prune_onto k.fields (edges tr a n) [] (tables_in x)) {x = list.start} {y = list.start + 0} {u = list.count} {v = list.count - 0} (omega arith) (omega arith));
        holds = none;
      };
      keeps = keeps_refl x;
      few = omega arith;
    }

    module _ {y : Lent} {m j : ℕ} (v : Cutting k x i list y m j) where
      pub prune_in : j < list.count → 2 * (list.start + j) + 1 < length y.transitions.words.now
      prune_in lt = rw v.keeps.transitions (omega (arith, inside, lt))

      -- the transition that is read
      module _ (lt : j < list.count) {t : Transition} (read : edge_of t ≡ edge_at y.transitions.words.now (list.start + j)) where
        same_edge : edge_of t ≡ edge_at tr (list.start + j)
        same_edge = read ∙ ap (λ (w : Transitions). edge_at w.words.now (list.start + j)) v.keeps.transitions

        state : t.target < x.states.count
        state = subst (λ (g : Edge). g.target < x.states.count) (sym same_edge) (entry_known lt).state

        marked : 0 < live_of st t.target
        marked = subst (λ (g : Edge). 0 < live_of st g.target) (sym same_edge) (entry_marked lt)

        live : SpLaws.ValidAt (sets_in x) k.fields (live_of st t.target - 1)
        live = subst (λ (g : Edge). SpLaws.ValidAt (sets_in x) k.fields (live_of st g.target - 1)) (sym same_edge) (entry_live lt)

        relation : ValidAt (nodes_in x) k.fields t.label.0
        relation = subst (λ (g : Edge). ValidAt (nodes_in x) k.fields g.label) (sym same_edge) (entry_known lt).relation

        pub prune_viable : ViableAsked k y t.target t.label.0
        prune_viable = record {
          fields = v.keeps.spp.fields ∙ P.fields;
          ready = v.turned.stage.ready;
          has = rw v.keeps.states state;
          marked = rw v.keeps.states marked;
          at_live = rw v.keeps.states (rw v.keeps.sp live);
          at_label = at_ext v.turned.stage.ext.grown.nodes k.fields t.label.0 relation;
        }

        on_next : edges tr (list.start + j) (list.count - j) ≡ edge_of t ∷ edges tr (list.start + (j + 1)) (list.count - (j + 1))
        on_next = edges_on tr list.start list.count j lt
            ∙ ap (λ (e : Edge). e ∷ edges tr (list.start + (j + 1)) (list.count - (j + 1))) (sym same_edge)

        stage_0 : Stage (query_layer k.fields k.limits) 0 1088 (prune_one k.fields (edge_of t) (edges y.scratch.now RESULT m) (tables_in y))
            (after (M.viable k.fields (edge_of t) (tables_in y)) (λ l τ. given τ (behind k.fields (edges y.scratch.now RESULT m) t.target l))) (tables_in y) (tables_in y) y.scratch.now y.scratch.now
        stage_0 = begin (query_laws k.fields k.limits) 0 1088 v.turned.stage.ready refl

        module _ {z : Lent} where
          turn_stuck : {error : Refusal} → GoesQuery k 0 0 tables_in (RelIn k.fields) (λ (h : SPP). h.0) (M.viable k.fields (edge_of t)) y (Err error) z
              → Post (query_layer k.fields k.limits) 0 1088 (λ τ es. Unit) (λ (m : ℕ). edges z.scratch.now RESULT m) (prune_one k.fields (edge_of t) (edges y.scratch.now RESULT m) (tables_in y)) (tables_in y) (Err error) (tables_in z) y.scratch.now z.scratch.now
          turn_stuck G = stuck (query_laws k.fields k.limits) 0 1088 G.post _ stage_0

          pub prune_stuck : {error : Refusal} → GoesQuery k 0 0 tables_in (RelIn k.fields) (λ (h : SPP). h.0) (M.viable k.fields (edge_of t)) y (Err error) z → PrunesAll k i x (Err error) z
          prune_stuck G = record { post = stuck (query_laws k.fields k.limits) 0 1088 (turn_stuck G) _ (turn (query_laws k.fields k.limits) 0 1088 (prune_folds k.fields) v.turned on_next) }

          module _ {h : SPP} (G : GoesQuery k 0 0 tables_in (RelIn k.fields) (λ (h : SPP). h.0) (M.viable k.fields (edge_of t)) y (Ok h) z) where
            pub prune_keep : PreKeep k.fields z.scratch.now m
            prune_keep = record { few = P.ready.ready.few; room = G.post.then.ready.ready.room; least = omega (arith, short, v.few) }

            module _ {w : Lent} {m1 : ℕ} (O : OnlyScratch z w) (K : PostKeep k.fields m t.target h.0 m1 z.scratch.now w.scratch.now) where
              same_tables : tables_in z ≡ tables_in w
              same_tables = rw (sym O.sp) (rw (sym O.spp) (rw (sym O.states) (rw (sym O.members) (rw (sym O.transitions) refl))))

              -- what was kept is as it was
              kept_is : edges w.scratch.now RESULT m1 ≡ behind k.fields (edges y.scratch.now RESULT m) t.target h.0
              kept_is = K.is ∙ ap (λ (es : List Edge). behind k.fields es t.target h.0)
                  (edges_same y.scratch.now z.scratch.now RESULT m (λ a b c. G.post.then.frame.above a (omega arith) (omega (arith, v.few, short))))

              kept_at : (σ : Aut) (es : List Edge) → EdgesAt k.fields σ es → EdgeAt k.fields σ (edge t.target h.0) → (b : Bool) → EdgesAt k.fields σ (if b then es else (es ++ edge t.target h.0 ∷ []))
              kept_at σ es p q true = p
              kept_at σ es p q false = edges_behind es p q

              turn_post : Post (query_layer k.fields k.limits) 0 1088 (λ τ es. EdgesAt k.fields τ.base.aut es) (λ m. edges w.scratch.now RESULT m) (prune_one k.fields (edge_of t) (edges y.scratch.now RESULT m) (tables_in y)) (tables_in y) (Ok m1) (tables_in w) y.scratch.now w.scratch.now
              turn_post =
                  let L = query_laws k.fields k.limits in
                  subst (λ (τ : Tables). Post (query_layer k.fields k.limits) 0 1088 (λ τ es. EdgesAt k.fields τ.base.aut es) (λ m. edges w.scratch.now RESULT m) (prune_one k.fields (edge_of t) (edges y.scratch.now RESULT m) (tables_in y)) (tables_in y) (Ok m1) τ y.scratch.now w.scratch.now) same_tables
                  (done L 0 1088
                  (instead L 0 1088 (wrote L 0 1088 (next L 0 1088 G.post (record { from = omega arith; to = omega arith }) _ stage_0) (record { from = omega arith; to = omega arith }) (omega arith) K.kept O.scratch.length)
                  (ap (λ (es : List Edge). given (tables_in z) es) (sym kept_is)))
                  (subst (λ (es : List Edge). EdgesAt k.fields (aut_in z) es) (sym kept_is)
                  (kept_at (aut_in z) (edges y.scratch.now RESULT m) (edges_grown G.post.then.ext.grown v.turned.holds) (record { state = at_target; relation = G.post.then.holds }) (eqb h.0 (Rel.zero_at k.fields)))))
                where
                  at_target : t.target < z.states.count
                  at_target = omega (arith, prune_viable.has, G.post.then.ext.grown.states.more)

              pub prune_again : KeepsExprs y z → Cutting k x i list w m1 (j + 1)
              prune_again E = record {
                turned = again (query_laws k.fields k.limits) 0 1088 (prune_folds k.fields) v.turned (omega arith) on_next turn_post (all_of 0 1088);
                keeps = keeps_on v.keeps E O;
                few = omega (arith, v.few, K.most);
              }

      pub prune_end : list.count ≤ j → PrunesAll k i x (Ok m) y
      prune_end le = record {
        post = done (query_laws k.fields k.limits) 0 1088
            (over (query_laws k.fields k.limits) 0 1088 (prune_folds k.fields) v.turned (edges_done tr (list.start + j) list.count j le))
            (record { edges = v.turned.holds; few = omega (arith, edges_length y.scratch.now RESULT m, v.few, v.turned.most, short) });
      }
