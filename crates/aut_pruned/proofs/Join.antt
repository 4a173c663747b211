-- delta_pruned: the live sets, delta, and the labels cut, by the rule for a run of calls (aut_stage).
use mathlib.Core.Path.{refl, ◌∙◌}
use Prim.Native.Nat.{ℕ, ◌/◌, ◌<◌}
use native.Mathlib.Omega.{arith}
use lib.ListN.{length}
use Rattle.std.specs.Prelude.{Result, Ok, Err, ⊤}
use Rattle.common.specs.Outcome.{after}
use Rattle.common.proofs.Follow.{given_of}
use Rattle.refusal.specs.declared.Refusal.{Refusal}
use Rattle.sp.specs.declared.SP.{SP}
use Rattle.spp.specs.Clauses.{SameStore}
use Rattle.aut_steps.proofs.Wf.{state_grown}
use Rattle.aut_delta_steps.specs.Delta.{delta, list_at}
use Rattle.aut_delta_stage.specs.OnTables.{store_in, KeepsStore}
use Rattle.aut_query_steps.specs.Tables.{on_base}
use Rattle.aut_query_steps.specs.Live.{live_packets}
use Rattle.aut_query_steps.proofs.LiveLaws as LiveLaws
use Rattle.aut_query_steps.proofs.LiveLaws.{live_goes}
use Rattle.aut_query_steps.specs.Pruned.{prune, delta_pruned}
use Rattle.aut_query_stage.specs.Lent.{tables_in, QueryAsked, query_layer, GoesQuery}
use Rattle.aut_query_stage.proofs.Lent.{query_laws}
use Rattle.aut_states.specs.Clauses.{limits_of}
use Rattle.aut_states.specs.declared.Config.{Config}
use Rattle.aut_relations.specs.declared.Aut.{Aut as Lent}
use Rattle.aut_stage.specs.Rule.{Stage}
use Rattle.aut_stage.proofs.Rule.{begin, next, stuck, finish, all_of}
use Rattle.aut_delta.specs.Clauses.{DeltaAsked, Deltas}
use Rattle.aut_query_calls.specs.Working.{WorkingIn, ListIn}
use Rattle.aut_query_calls.specs.Working.{SetIn}
use Rattle.aut_query_calls.proofs.Works.{working_rest, asks_store, at_rest}
use Rattle.aut_query_calls.proofs.Calls.{delta_ran}
use Rattle.aut_pruned.specs.Clauses.{Prunes, PruneAsked, PrunesAll}

module _ {k : Config} {x : Lent} {i : ℕ} (Q : QueryAsked k x i) where
  stage_0 : Stage (query_layer k.fields k.limits) 0 1088 (delta_pruned k.fields (limits_of k.limits) (length x.pending.now / 2) i (tables_in x))
      (after (live_packets k.fields (limits_of k.limits) (length x.pending.now / 2) i (tables_in x)) (λ h τ. after (on_base (delta k.fields (limits_of k.limits) i) τ) (prune k.fields))) (tables_in x) (tables_in x) x.scratch.now x.scratch.now
  unfolding delta_pruned
  stage_0 = begin (query_laws k.fields k.limits) 0 1088 Q.query.ready refl

  module _ {y : Lent} where
    pub stuck_1 : {e : Refusal} {z : Lent} → GoesQuery k 0 1088 tables_in (SetIn k.fields) (λ (h : SP). h.0) (live_packets k.fields (limits_of k.limits) (length x.pending.now / 2) i) x (Err e) y → Prunes k i x (Err e) z
    stuck_1 G = record { post = stuck (query_laws k.fields k.limits) 0 1088 G.post _ stage_0 }

    module _ {h : SP} (S : SameStore x.spp y.spp) (G : GoesQuery k 0 1088 tables_in (SetIn k.fields) (λ (h : SP). h.0) (live_packets k.fields (limits_of k.limits) (length x.pending.now / 2) i) x (Ok h) y) where
      law : LiveLaws.Lived k.fields (limits_of k.limits) i (tables_in x) (tables_in y) h.0
      law = given_of (live_goes (length x.pending.now / 2) Q.query.ready.ordered Q.query.has) G.post.is

      has : i < y.states.count
      has = state_grown law.later.grown Q.query.has

      V : WorkingIn k y
      V = record { fields = S.fields ∙ Q.fields; working = working_rest y G.post.then.ready }

      stage_1 : Stage (query_layer k.fields k.limits) 0 1088 (delta_pruned k.fields (limits_of k.limits) (length x.pending.now / 2) i (tables_in x)) (after (on_base (delta k.fields (limits_of k.limits) i) (tables_in y)) (prune k.fields))
          (tables_in x) (tables_in y) x.scratch.now y.scratch.now
      stage_1 = next (query_laws k.fields k.limits) 0 1088 G.post (all_of 0 1088) (λ h τ. after (on_base (delta k.fields (limits_of k.limits) i) τ) (prune k.fields)) stage_0

      pub delta_asks : DeltaAsked k y i
      delta_asks = record { store = asks_store V; limit = G.post.then.ready.limit; has = has }

      module _ {z : Lent} (K : KeepsStore y z) where
        listed : {r : Result ⊤ Refusal} → Deltas k i y r z → GoesQuery k 0 1088 tables_in (ListIn k.fields i) (λ (v : ⊤). list_at (store_in z) i) (on_base (delta k.fields (limits_of k.limits) i)) y r z
        listed D = at_rest G.post.then.ready (delta_ran V has K D)

        pub stuck_2 : {e : Refusal} {w : Lent} → Deltas {V = ⊤} k i y (Err e) z → Prunes k i x (Err e) w
        stuck_2 D = record { post = stuck (query_laws k.fields k.limits) 0 1088 (listed D).post _ stage_1 }

        module _ {u : ⊤} (D : Deltas k i y (Ok u) z) where
          pub prune_asks : PruneAsked k z i
          prune_asks =
              let v = (listed D).post.then in
              record {
                fields = K.spp.fields ∙ V.fields;
                ready = v.ready;
                has = state_grown v.ext.grown has;
                marked = omega (arith, law.kept, v.ext.lives i (omega (arith, law.kept)));
              }

          pub pruned_done : {w : Lent} {r : Result ℕ Refusal} → PrunesAll k i z r w → Prunes k i x r w
          pruned_done {r = r} B = record {
            post = finish (query_laws k.fields k.limits) 0 1088 (next (query_laws k.fields k.limits) 0 1088 (listed D).post (all_of 0 1088) (prune k.fields) stage_1) r B.post (all_of 0 1088);
          }
