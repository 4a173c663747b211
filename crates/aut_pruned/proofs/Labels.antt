-- One label cut; and a transition that goes behind those kept.
use Rattle.std.specs.Prelude.{if◌then◌else◌}
use mathlib.Core.Path.{◌≡◌, sym, ◌∙◌, ap, subst}
use mathlib.Core.Bool.{Bool, true, false}
use mathlib.Core.List.{List, [], ◌∷◌, ◌++◌}
use Prim.Native.Nat.{ℕ, ◌+◌, ◌*◌, ◌-◌, ◌<◌}
use native.Mathlib.Omega.{arith}
use lib.ListN.{length, get_or}
use Rattle.std.specs.Prelude.{Result, Ok, Err}
use Rattle.common.specs.Outcome.{after}
use Rattle.refusal.specs.declared.Refusal.{Refusal}
use Rattle.cache.specs.Cache.{OnlyCodes}
use Rattle.netkat_steps.specs.ListSteps.{edge}
use Rattle.sp_steps.specs.Wf as SpLaws
use Rattle.spp_steps.specs.Model as Spp
use Rattle.spp_steps.specs.Wf.{ValidAt}
use Rattle.spp_steps.proofs.Laws.{at_ext}
use Rattle.spp_steps.specs.ImageModel as Images
use Rattle.spp.specs.declared.SPP.{SPP}
use Rattle.spp_image.specs.Reuse.{Kept}
use Rattle.aut_steps.specs.Relations as Rel
use Rattle.aut_steps.specs.Tables.{on_nodes}
use Rattle.aut_steps.proofs.Scratch.{kept_refl, kept_wide}
use Rattle.aut_st_steps.specs.Edges.{edges}
use Rattle.aut_st_edges.specs.Clauses.{Wrote}
use Rattle.aut_st_edges.proofs.Moves.{put_behind}
use Rattle.aut_delta_steps.specs.Delta.{on_aut}
use Rattle.aut_query_steps.specs.Tables.{live_of, on_base, making_relations}
use Rattle.aut_query_steps.specs.Pruned as M
use Rattle.aut_query_stage.specs.Lent.{tables_in, query_layer, GoesQuery}
use Rattle.aut_query_stage.proofs.Lent.{query_laws}
use Rattle.aut_states.specs.declared.Config.{Config}
use Rattle.aut_relations.specs.declared.Aut.{Aut as Lent}
use Rattle.aut_relations.specs.Lent.{nodes_in, KeepsExprs, Does, Handles}
use Rattle.aut_stage.specs.Rule.{Stage}
use Rattle.aut_stage.proofs.Rule.{begin, next, stuck, finish, all_of}
use Rattle.aut_sets.specs.Lent.{sets_in, diagrams_in}
use Rattle.aut_sets.specs.Clauses.{Gives, PreLift}
use Rattle.aut_query_calls.specs.Working.{Working}
use Rattle.aut_query_calls.specs.Working.{RelIn}
use Rattle.aut_query_calls.proofs.Works.{working_rest, at_rest}
use Rattle.aut_query_calls.proofs.Calls.{asks_lift, asks_relate, ifwd_ran, intersect_ran}
use Rattle.aut_st_insert.specs.Clauses.{RESULT}
use Rattle.aut_pruned.specs.Clauses.{ViableAsked, PreKeep, PostKeep}

-- ---- viable

module _ {k : Config} {x : Lent} {i g : ℕ} (P : ViableAsked k x i g) where
  pub viable_set : (12 * i + 7 < length x.states.words.now) × (0 < get_or x.states.words.now (12 * i + 7) 0)
  unfolding live_of
  viable_set = (omega (arith, P.has, P.ready.ready.good.fits), P.marked)

-- live is the set of the target, as it is read
module _ {k : Config} {x : Lent} {i g : ℕ} (P : ViableAsked k x i g) {live : ℕ} (q : live ≡ get_or x.states.words.now (12 * i + 7) 0 - 1) where
  live_is : live_of x.states.words.now i - 1 ≡ live
  unfolding live_of
  live_is = sym q

  at_live : SpLaws.ValidAt (sets_in x) k.fields live
  at_live = subst (SpLaws.ValidAt (sets_in x) k.fields) live_is P.at_live

  pub viable_lift : (x.spp.fields ≡ k.fields) × PreLift k.fields (diagrams_in x) x.scratch.now live
  viable_lift = (P.fields, asks_lift x (working_rest x P.ready) live at_live)

  stage_0 : Stage (query_layer k.fields k.limits) 0 0 (M.viable k.fields (edge i g) (tables_in x)) (after (making_relations (Images.ifwd k.fields live) (tables_in x)) (λ h. on_base (on_aut (on_nodes (Rel.intersect k.fields g h)))))
      (tables_in x) (tables_in x) x.scratch.now x.scratch.now
  unfolding M.viable
  stage_0 = begin (query_laws k.fields k.limits) 0 0 P.ready
      (ap (λ (s : ℕ). after (making_relations (Images.ifwd k.fields s) (tables_in x)) (λ h. on_base (on_aut (on_nodes (Rel.intersect k.fields g h))))) live_is)

  module _ {y : Lent} (K : KeepsExprs x y) where
    lifted : {r : Result SPP Refusal} → Gives (λ σ. OnlyCodes 10 15 (Kept k.fields σ)) (λ (h : SPP). h.0) (Images.ifwd k.fields live) (diagrams_in x) r (diagrams_in y) x.scratch.now y.scratch.now
        → GoesQuery k 0 0 tables_in (RelIn k.fields) (λ (h : SPP). h.0) (making_relations (Images.ifwd k.fields live)) x r y
    lifted G = at_rest P.ready (ifwd_ran (working_rest x P.ready) live at_live K G)

    pub viable_stuck : {e : Refusal} → Gives (λ σ. OnlyCodes 10 15 (Kept k.fields σ)) (λ (h : SPP). h.0) (Images.ifwd k.fields live) (diagrams_in x) (Err e) (diagrams_in y) x.scratch.now y.scratch.now
        → GoesQuery k 0 0 tables_in (RelIn k.fields) (λ (h : SPP). h.0) (M.viable k.fields (edge i g)) x (Err e) y
    viable_stuck G = record { post = stuck (query_laws k.fields k.limits) 0 0 (lifted G).post _ stage_0 }

    module _ {h : SPP} (G : Gives (λ σ. OnlyCodes 10 15 (Kept k.fields σ)) (λ (h : SPP). h.0) (Images.ifwd k.fields live) (diagrams_in x) (Ok h) (diagrams_in y) x.scratch.now y.scratch.now) where
      W : Working k.fields k.limits (tables_in y) y.scratch.now
      W = working_rest y (lifted G).post.then.ready

      at_g : ValidAt (nodes_in y) k.fields g
      at_g = at_ext (lifted G).post.then.ext.grown.nodes k.fields g P.at_label

      pub viable_relate : Handles k.fields y g h.0
      viable_relate = asks_relate y W (K.spp.fields ∙ P.fields) g at_g h.0 (lifted G).post.then.holds

      pub viable_done : {z : Lent} {r : Result SPP Refusal} → KeepsExprs y z → Does k.fields 0 0 nodes_in (λ (h : SPP). h.0) (Rel.intersect k.fields g h.0) y r z
          → GoesQuery k 0 0 tables_in (RelIn k.fields) (λ (h : SPP). h.0) (M.viable k.fields (edge i g)) x r z
      viable_done {r = r} L D = record {
        post = finish (query_laws k.fields k.limits) 0 0 (next (query_laws k.fields k.limits) 0 0 (lifted G).post (all_of 0 0) _ stage_0) r
            (at_rest (lifted G).post.then.ready (intersect_ran W g at_g h.0 (lifted G).post.then.holds L D)).post (all_of 0 0);
      }

-- ---- keep

module _ {N : ℕ} {s : List ℕ} {m : ℕ} (P : PreKeep N s m) (t g : ℕ) where
  pub keep_none : Spp.is_zero N N g ≡ true → PostKeep N m t g m s s
  unfolding Spp.is_zero
  keep_none q = record {
    is = sym (ap (λ (b : Bool). if b then edges s RESULT m else (edges s RESULT m ++ edge t g ∷ [])) q);
    kept = kept_refl 576 128 s;
    most = omega arith;
  }

  pub keep_some : Spp.is_zero N N g ≡ false → {s' : List ℕ} → Wrote (RESULT + m) 1 (edge t g ∷ []) s s' → PostKeep N m t g (m + 1) s s'
  unfolding Spp.is_zero
  keep_some q W =
      let w = put_behind RESULT m W in
      record {
        is = w.is ∙ sym (ap (λ (b : Bool). if b then edges s RESULT m else (edges s RESULT m ++ edge t g ∷ [])) q);
        kept = kept_wide w.kept (omega arith) (omega (arith, P.least));
        most = omega arith;
      }
