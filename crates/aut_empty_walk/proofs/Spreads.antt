-- The list of a state worked out and walked: the body of `spread`, by the rule for a run of calls (aut_stage).
use Rattle.std.specs.Prelude.{Result, Ok, Err, IfOk}
use mathlib.Core.Path.{◌≡◌, sym, ◌∙◌, ap, subst}
use mathlib.Core.List.{List, map}
use Prim.Native.Nat.{ℕ, ◌/◌}
use native.Mathlib.Omega.{arith}
use lib.ListN.{length}
use Rattle.common.specs.Outcome.{Outcome, Step, return, after}
use Rattle.refusal.specs.declared.Refusal.{Refusal}
use Rattle.netkat_steps.specs.ListSteps.{Edge}
use Rattle.netkat_steps.specs.Handles as Handles
use Rattle.netkat_steps.specs.Handles.{Entry}
use Rattle.sp_steps.proofs.Laws as SpLaws
use Rattle.aut_steps.proofs.Wf.{state_grown}
use Rattle.aut_delta_steps.specs.Delta.{list_at, delta}
use Rattle.aut_delta_stage.specs.OnTables.{store_in, KeepsStore}
use Rattle.aut_query_steps.specs.Tables.{Tables, on_base}
use Rattle.aut_query_steps.specs.Search.{link}
use Rattle.aut_query_stage.specs.Lent.{tables_in, query_layer}
use Rattle.aut_query_stage.proofs.Lent.{query_laws}
use Rattle.aut_states.specs.Clauses.{limits_of}
use Rattle.aut_states.specs.declared.Config.{Config}
use Rattle.aut_delta.specs.Clauses.{DeltaAsked, Deltas}
use Rattle.aut_stage.specs.Rule.{Laws, Stage}
use Rattle.aut_stage.proofs.Rule.{Inside, begin, next, finish, all_of}
use Rattle.aut_relations.specs.declared.Aut.{Aut as Lent}
use Rattle.aut_query_calls.specs.Working.{clear_in, Working, WorkingIn, ListIn}
use Rattle.aut_query_calls.specs.Working.{Unwritten}
use Rattle.aut_query_calls.proofs.Ran.{Ran}
use Rattle.aut_query_calls.proofs.Works.{asks_store, next_working}
use Rattle.aut_query_calls.proofs.Calls.{delta_ran}
use Rattle.aut_empty_words.specs.Words.{entries_of, Stack}
use Rattle.aut_empty_words.proofs.Stacks.{after_after, stack_later}
use Rattle.aut_empty_walk.specs.Clauses.{search_in, WalkAsked, WalksAll, spread_of, SpreadAsked, Spreads}

pub none_of : (n : ℕ) → Inside 0 n 0 0
none_of n = record { from = omega arith; to = omega arith }

module _ {k : Config} {x : Lent} {n i fresh : ℕ} (R : SpreadAsked k x n i fresh) where
  L : Laws (query_layer k.fields k.limits)
  L = query_laws k.fields k.limits

  abbrev listing : Step Tables (List Edge)
  listing = on_base (delta k.fields (limits_of k.limits) i)

  abbrev walking : List Edge → Step Tables (List (Entry ℕ))
  walking es = Handles.walk (search_in k x) fresh (map link es) (entries_of x.pending.now n)

  start : Stage (query_layer k.fields k.limits) 0 1088 (spread_of k.fields (limits_of k.limits) (length x.pending.now / 2) i fresh (entries_of x.pending.now n) (clear_in x)) (after (listing (clear_in x)) walking) (clear_in x) (clear_in x) x.scratch.now x.scratch.now
  start = begin L 0 1088 R.working.working.ready (after_after (listing (clear_in x)) (λ es. return (map link es)) (λ list. Handles.walk (search_in k x) fresh list (entries_of x.pending.now n)))

  pub delta_asks : DeltaAsked k x i
  delta_asks = record { store = asks_store R.working; limit = R.working.working.ready.limit; has = R.has }

  module _ {y : Lent} (K : KeepsStore x y) where
    ran : {r : Result (Unit {0}) Refusal} → Deltas k i x r y → Ran k 0 1088 (ListIn k.fields i) (λ v. list_at (store_in y) i) listing x r y
    ran D = delta_ran R.working R.has K D

    pub spread_stuck : {e : Refusal} {r : Result ℕ Refusal} {z : Lent} → r ≡ Err e → Deltas {V = Unit {0}} k i x (Err e) y → Spreads k n i fresh x r z
    spread_stuck {e} {r} {z} q D = subst (λ (r : Result ℕ Refusal). Spreads k n i fresh x r z) (sym q) (record {
      post = record { post = record { is = start.is ∙ ap (λ (o : Outcome Tables (List Edge)). after o walking) (ran D).post.is; then = tt } };
      held = tt;
    })

    module _ (D : Deltas k i x (Ok (tt {0})) y) where
      Y : WorkingIn k y
      Y = next_working R.working K.spp (ran D)

      pub walk_asks : WalkAsked k y n i fresh
      walk_asks = record {
        asked = record {
          working = Y;
          stack = rw K.pending (stack_later (ran D).post.then.ext R.stack);
          at = SpLaws.at_ext (ran D).post.then.ext.sets k.fields fresh R.at;
          has = state_grown (ran D).post.then.ext.grown R.has;
        };
        list = (ran D).post.then.holds;
      }

      stage : Stage (query_layer k.fields k.limits) 0 1088 (spread_of k.fields (limits_of k.limits) (length x.pending.now / 2) i fresh (entries_of x.pending.now n) (clear_in x)) (walking (list_at (store_in y) i) (clear_in y)) (clear_in x) (clear_in y) x.scratch.now y.scratch.now
      stage = next L 0 1088 (ran D).post (all_of 0 1088) walking start

      module _ {z : Lent} (same : z.states ≡ y.states) where
        held : (r : Result ℕ Refusal) → WalksAll k n i fresh y r z → IfOk r (λ m. Working k.fields k.limits (tables_in z) z.scratch.now × Stack k.fields (clear_in z) z.pending.now m × Unwritten (tables_in x) (tables_in z))
        held (Ok m) G = (G.held.0, G.held.1, rw same (ran D).unwritten)
        held (Err e) G = tt

        pub spread_done : (r : Result ℕ Refusal) → WalksAll k n i fresh y r z → Spreads k n i fresh x r z
        spread_done r G = record {
          post = record { post = finish L 0 1088 stage r (rw (sym K.pending) G.post.post) (none_of 1088) };
          held = held r G;
        }
