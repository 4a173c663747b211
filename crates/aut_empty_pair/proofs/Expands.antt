-- Fresh packets at a state: the body of `expand`, by the rule for a run of calls (aut_stage).
use Rattle.std.specs.Prelude.{if◌then◌else◌, Result, Ok, Err, Option, Some, None}
use mathlib.Core.Path.{◌≡◌, sym, ◌∙◌, ap, subst}
use mathlib.Core.Bool.{Bool, true, false}
use mathlib.Core.List.{List}
use Prim.Native.Nat.{ℕ, ◌+◌, ◌*◌, ◌/◌, ◌≤◌, ◌<◌}
use native.Mathlib.Omega.{arith}
use lib.Dec.{eqb}
use lib.ListN.{length, get_or, set}
use lib.Seq.{get_or-set_other}
use Rattle.common.specs.Outcome.{Outcome, refused, given, Step, return, after}
use Rattle.refusal.specs.declared.Refusal.{Refusal}
use Rattle.refusal.specs.Numbers.{number_of}
use Rattle.netkat_steps.specs.Handles as Handles
use Rattle.netkat_steps.specs.Handles.{Entry, goes, found}
use Rattle.sp_steps.specs.Model as Sp
use Rattle.sp_steps.specs.Wf as SpLaws
use Rattle.sp_steps.specs.Reuse.{SpNoted}
use Rattle.sp_steps.proofs.Laws as SpLawsProofs
use Rattle.sp.specs.declared.SP.{SP}
use Rattle.spp_steps.specs.ImageModel as Images
use Rattle.spp.specs.declared.SPP.{SPP}
use Rattle.aut_steps.proofs.Wf.{state_grown}
use Rattle.aut_delta_steps.specs.Epsilon.{epsilon}
use Rattle.aut_delta_steps.specs.Delta.{on_aut}
use Rattle.aut_query_steps.specs.Tables.{Tables, diagrams, on_sets, on_base, ExtTables}
use Rattle.aut_query_steps.proofs.Tables.{later_trans}
use Rattle.aut_query_stage.specs.Lent.{query_layer}
use Rattle.aut_query_stage.proofs.Lent.{query_laws}
use Rattle.aut_states.specs.Clauses.{limits_of}
use Rattle.aut_states.specs.declared.Config.{Config}
use Rattle.aut_relations.specs.declared.Aut.{Aut as Lent}
use Rattle.aut_relations.specs.Lent.{aut_in, Keeps, Does}
use Rattle.aut_epsilon.specs.Asked.{EpsilonAsked, Later}
use Rattle.aut_stage.specs.Rule.{Laws, Post, Stage}
use Rattle.aut_stage.proofs.Rule.{begin, next, instead, done, all_of}
use Rattle.aut_sets.specs.Lent.{sets_in, diagrams_in, OnlyScratch, OnlySets, OnlyMarks}
use Rattle.aut_sets.specs.Clauses.{Gives, PreSets, PreLead, PostHas}
use Rattle.aut_query_calls.specs.Working.{clear_in, WorkingIn}
use Rattle.aut_query_calls.specs.Working.{SetIn, RelIn}
use Rattle.aut_query_calls.proofs.Ran.{Ran}
use Rattle.aut_query_calls.proofs.Works.{prepared, asks_epsilon, next_working, clear_written, working_written}
use Rattle.aut_query_calls.proofs.Calls.{asks_sets, asks_lead, union_ran, has_ran, epsilon_ran}
use Rattle.aut_empty_words.specs.Words.{entries_of, seen_in}
use Rattle.aut_empty_words.proofs.Stacks.{after_after, stack_later, seen_same, seen_set, set_small}
use Rattle.aut_empty_walk.specs.Clauses.{search_in, spread_of, SpreadAsked, Spreads}
pub use Rattle.aut_empty_walk.proofs.Spreads.{none_of}
use Rattle.aut_empty_pair.specs.Clauses.{ExpandAsked, Expands}

module _ {k : Config} {x : Lent} {n i fresh : ℕ} (R : ExpandAsked k x n i fresh) where
  abbrev N : ℕ
  N = k.fields

  abbrev p : List ℕ
  p = x.pending.now

  abbrev st : List ℕ
  st = x.states.words.now

  abbrev M : Handles.Machine
  M = search_in k x

  abbrev Told : Type 0
  Told = Handles.Turn (search_in k x)

  V : WorkingIn k x
  V = record { fields = R.search.fields; working = R.search.seeking.working }

  L : Laws (query_layer k.fields k.limits)
  L = query_laws k.fields k.limits

  abbrev whole : Outcome Tables Told
  whole = Handles.expand M i fresh (entries_of p n) (seen_in N st) (clear_in x)

  stuck_at : {e : Refusal} {r : Result (Option ℕ) Refusal} {z : Lent} → r ≡ Err e → whole ≡ refused (number_of e) → Expands k n i fresh x r z
  stuck_at {z = z} q w = subst (λ (r : Result (Option ℕ) Refusal). Expands k n i fresh x r z) (sym q) (record { post = record { post = record { is = w; then = tt } }; held = tt })

  -- the rest of the steps, after each call
  abbrev marks : ℕ → List (Entry ℕ) → Step Tables Told
  marks both pending = return (goes pending (λ y. if eqb i y then both else seen_in N st y))

  abbrev onward : ℕ → Bool → Step Tables Told
  onward both has = if has then return found else (λ σ. after (M.delta i σ) (λ list σ. after (Handles.walk M fresh list (entries_of p n) σ) (marks both)))

  abbrev looks : ℕ → ℕ → Step Tables Told
  looks both e σ = after (given σ (Images.has_image N N fresh e (diagrams σ))) (onward both)

  abbrev ending : ℕ → Step Tables Told
  ending both σ = after (on_base (on_aut (epsilon N i)) σ) (looks both)

  pub seen_asks : (12 * i + 11 < length st) × (N ≤ 31)
  seen_asks = (omega (arith, R.has, (prepared x V.working).worked.good.fits), V.working.ready.ready.few)

  module _ {y : ℕ} (e0 : y ≡ seen_in N st i) where
    at_y : SpLaws.ValidAt (sets_in x) N y
    at_y = subst (SpLaws.ValidAt (sets_in x) N) (sym e0) (R.search.seeking.seen i)

    pub union_asks : PreSets N (sets_in x) x.scratch.now y fresh
    union_asks = asks_sets x V.working y at_y fresh R.at

    stage0 : Stage (query_layer k.fields k.limits) 0 1088 whole (after (on_sets (Sp.union N y fresh) (clear_in x)) ending) (clear_in x) (clear_in x) x.scratch.now x.scratch.now
    unfolding Handles.expand
    stage0 = begin L 0 1088 V.working.ready (ap (λ (z : ℕ). after (on_sets (Sp.union N z fresh) (clear_in x)) ending) (sym e0))

    -- ---- union

    module _ {y1 : Lent} (K1 : OnlySets x y1) where
      abbrev Unites : Result SP Refusal → Type 0
      Unites r = Gives SpNoted (λ (h : SP). h.0) (Sp.union N y fresh) (sets_in x) r (sets_in y1) x.scratch.now y1.scratch.now

      united : {r : Result SP Refusal} → Unites r → Ran k 0 0 (SetIn N) (λ (h : SP). h.0) (on_sets (Sp.union N y fresh)) x r y1
      united G = union_ran V.working y at_y fresh R.at K1 G

      pub expand_full : {e : Refusal} {r : Result (Option ℕ) Refusal} {z : Lent} → r ≡ Err e → Unites (Err e) → Expands k n i fresh x r z
      expand_full q G = stuck_at q (stage0.is ∙ ap (λ (o : Outcome Tables ℕ). after o ending) (united G).post.is)

      module _ {h : SP} (G1 : Unites (Ok h)) where
        V1 : WorkingIn k y1
        V1 = record { fields = rw K1.spp V.fields; working = (united G1).working }

        pub both_small : h.0 < 33554434
        both_small = set_small V1.working.ready.ordered.sets N h.0 (united G1).post.then.holds

        stage1 : Stage (query_layer k.fields k.limits) 0 1088 whole (ending h.0 (clear_in y1)) (clear_in x) (clear_in y1) x.scratch.now y1.scratch.now
        stage1 = next L 0 1088 (united G1).post (none_of 1088) ending stage0

        has1 : i < y1.states.count
        has1 = state_grown (united G1).post.then.ext.grown R.has

        pub epsilon_asks : EpsilonAsked k.fields y1 i
        epsilon_asks = asks_epsilon V1 has1

        -- ---- epsilon

        module _ {y2 : Lent} (K2 : Keeps y1 y2) where
          abbrev Ends : Result SPP Refusal → Type 0
          Ends r = Does N 0 0 aut_in (λ (h : SPP). h.0) (epsilon N i) y1 r y2

          ended : {r : Result SPP Refusal} → Ends r → Later k.fields i y1 r y2 → Ran k 0 0 (RelIn N) (λ (h : SPP). h.0) (on_base (on_aut (epsilon N i))) y1 r y2
          ended D A = epsilon_ran V1 has1 K2 D A

          pub expand_full_2 : {e : Refusal} {r : Result (Option ℕ) Refusal} {z : Lent} → r ≡ Err e → Ends (Err e) → Later k.fields i y1 (Err e) y2 → Expands k n i fresh x r z
          expand_full_2 q D A = stuck_at q (stage1.is ∙ ap (λ (o : Outcome Tables ℕ). after o (looks h.0)) (ended D A).post.is)

          module _ {g : SPP} (D : Ends (Ok g)) (A : Later k.fields i y1 (Ok g) y2) where
            V2 : WorkingIn k y2
            V2 = next_working V1 K2.spp (ended D A)

            later2 : ExtTables (clear_in x) (clear_in y2)
            later2 = later_trans (united G1).post.then.ext (ended D A).post.then.ext

            stage2 : Stage (query_layer k.fields k.limits) 0 1088 whole (looks h.0 g.0 (clear_in y2)) (clear_in x) (clear_in y2) x.scratch.now y2.scratch.now
            stage2 = next L 0 1088 (ended D A).post (none_of 1088) (looks h.0) stage1

            at_fresh : SpLaws.ValidAt (sets_in y2) N fresh
            at_fresh = SpLawsProofs.at_ext later2.sets N fresh R.at

            pub has_asks : PreLead N (diagrams_in y2) y2.scratch.now fresh g.0
            has_asks = asks_lead y2 V2.working fresh at_fresh g.0 (ended D A).post.then.holds

            -- ---- has_image

            module _ {b : Bool} {y3 : Lent} (K3 : OnlyScratch y2 y3) (H : PostHas N (diagrams_in y2) fresh g.0 b y2.scratch.now y3.scratch.now) where
              looked : Ran k 0 0 (λ τ b. Unit) (λ (b : Bool). b) (λ τ. given τ (Images.has_image N N fresh g.0 (diagrams τ))) y2 (Ok b) y3
              looked = has_ran V2.working K3 H

              V3 : WorkingIn k y3
              V3 = record { fields = rw K3.spp V2.fields; working = looked.working }

              stage3 : Stage (query_layer k.fields k.limits) 0 1088 whole (onward h.0 b (clear_in y3)) (clear_in x) (clear_in y3) x.scratch.now y3.scratch.now
              stage3 = next L 0 1088 looked.post (none_of 1088) (onward h.0) stage2

              later3 : ExtTables (clear_in x) (clear_in y3)
              later3 = later_trans later2 looked.post.then.ext

              -- the pending entries are as they were; so are words 8 to 11
              pending3 : y3.pending ≡ x.pending
              pending3 = K3.pending ∙ K2.pending ∙ K1.pending

              word3 : (y w : ℕ) → 8 ≤ w → w < 12 → get_or y3.states.words.now (12 * y + w) 0 ≡ get_or st (12 * y + w) 0
              word3 y w a b = looked.unwritten y w a b ∙ (ended D A).unwritten y w a b ∙ (united G1).unwritten y w a b

              pub expand_found : b ≡ true → Expands k n i fresh x (Ok None) y3
              expand_found e = record {
                post = record { post = done L 0 1088 (instead L 0 1088 stage3 (ap (λ (b : Bool). onward h.0 b (clear_in y3)) e)) tt };
                held = record {
                  working = V3.working;
                  spare = λ y w a b. word3 y w (omega arith) b ∙ R.search.seeking.spare y w a b;
                  room = rw pending3 R.search.seeking.stack.room;
                  idle = rw pending3 R.search.seeking.stack.idle;
                };
              }

              pub spread_asks : SpreadAsked k y3 n i fresh
              spread_asks = record {
                working = V3;
                stack = rw pending3 (stack_later later3 R.search.seeking.stack);
                at = SpLawsProofs.at_ext later3.sets N fresh R.at;
                has = state_grown later3.grown R.has;
              }

              -- ---- the walk

              module _ (e3 : b ≡ false) where
                stage4 : Stage (query_layer k.fields k.limits) 0 1088 whole (after (spread_of N (limits_of k.limits) (length x.pending.now / 2) i fresh (entries_of p n) (clear_in y3)) (marks h.0)) (clear_in x) (clear_in y3) x.scratch.now y3.scratch.now
                stage4 = instead L 0 1088 stage3 (ap (λ (b : Bool). onward h.0 b (clear_in y3)) e3 ∙ sym (after_after (M.delta i (clear_in y3)) (λ list. Handles.walk M fresh list (entries_of p n)) (marks h.0)))

                module _ {y4 : Lent} where
                  spreads : {r : Result ℕ Refusal} → Spreads k n i fresh y3 r y4
                      → Post (query_layer k.fields k.limits) 0 1088 (λ τ es. Unit) (entries_of y4.pending.now) (spread_of N (limits_of k.limits) (length x.pending.now / 2) i fresh (entries_of p n) (clear_in y3)) (clear_in y3) r (clear_in y4) y3.scratch.now y4.scratch.now
                  spreads Z = rw (sym pending3) Z.post.post

                  pub expand_stuck : {e : Refusal} {r : Result (Option ℕ) Refusal} {z : Lent} → r ≡ Err e → Spreads k n i fresh y3 (Err e) y4 → Expands k n i fresh x r z
                  expand_stuck q Z = stuck_at q (stage4.is ∙ ap (λ (o : Outcome Tables (List (Entry ℕ))). after o (marks h.0)) (spreads Z).is)

                  module _ {m : ℕ} (Z : Spreads k n i fresh y3 (Ok m) y4) where
                    later4 : ExtTables (clear_in y3) (clear_in y4)
                    later4 = (spreads Z).then.ext

                    has4 : i < y4.states.count
                    has4 = state_grown later4.grown (state_grown later3.grown R.has)

                    pub state_in4 : 12 * i + 11 < length y4.states.words.now
                    state_in4 = omega (arith, has4, (prepared y4 Z.held.0).worked.good.fits)

                    -- ---- the word of the set seen is written

                    module _ {y5 : Lent} (K5 : OnlyMarks y4 y5) (same : y5.pending ≡ y4.pending) (w5 : y5.states.words.now ≡ set y4.states.words.now (12 * i + 8) (h.0 + 1)) where
                      back : clear_in y5 ≡ clear_in y4
                      back = clear_written K5 i 8 (h.0 + 1) (omega arith) (omega arith) w5

                      same_seen : seen_in N y4.states.words.now ≡ seen_in N st
                      same_seen = seen_same N st y4.states.words.now (λ y. Z.held.2 y 8 (omega arith) (omega arith) ∙ word3 y 8 (omega arith) (omega arith))

                      seen5 : seen_in N y5.states.words.now ≡ (λ y. if eqb i y then h.0 else seen_in N st y)
                      seen5 = ap (seen_in N) w5 ∙ seen_set N y4.states.words.now i h.0 (omega (arith, state_in4)) ∙ ap {B = ℕ → ℕ} (λ (f : ℕ → ℕ) y. if eqb i y then h.0 else f y) same_seen

                      at4 : (y : ℕ) → SpLaws.ValidAt (sets_in y4) N (if eqb i y then h.0 else seen_in N st y)
                      at4 y = go (eqb i y)
                        where
                          go : (b : Bool) → SpLaws.ValidAt (sets_in y4) N (if b then h.0 else seen_in N st y)
                          go true = SpLawsProofs.at_ext later4.sets N h.0 (SpLawsProofs.at_ext looked.post.then.ext.sets N h.0 (SpLawsProofs.at_ext (ended D A).post.then.ext.sets N h.0 (united G1).post.then.holds))
                          go false = SpLawsProofs.at_ext later4.sets N (seen_in N st y) (SpLawsProofs.at_ext later3.sets N (seen_in N st y) (R.search.seeking.seen y))

                      stage5 : Stage (query_layer k.fields k.limits) 0 1088 whole (given (clear_in y5) (goes (entries_of y5.pending.now m) (seen_in N y5.states.words.now))) (clear_in x) (clear_in y5) x.scratch.now y5.scratch.now
                      stage5 = rw K5.scratch (rw same (rw back (instead L 0 1088 (next L 0 1088 (spreads Z) (all_of 0 1088) (marks h.0) stage4)
                          (ap (λ (f : ℕ → ℕ). given (clear_in y4) (goes (entries_of y4.pending.now m) f)) (sym seen5)))))

                      pub expand_goes : Expands k n i fresh x (Ok (Some m)) y5
                      expand_goes = record {
                        post = record { post = done L 0 1088 stage5 tt };
                        held = record {
                          working = working_written K5 i 8 (h.0 + 1) (omega arith) (omega arith) w5 has4 Z.held.0;
                          stack = rw same (rw back Z.held.1);
                          seen = λ y. rw K5.sp (subst (λ (f : ℕ → ℕ). SpLaws.ValidAt (sets_in y4) N (f y)) (sym seen5) (at4 y));
                          spare = λ y w a b. rw w5 (get_or-set_other y4.states.words.now (12 * i + 8) (12 * y + w) (h.0 + 1) 0 (λ q. omega arith) ∙ Z.held.2 y w (omega arith) b ∙ word3 y w (omega arith) b ∙ R.search.seeking.spare y w a b);
                        };
                      }
