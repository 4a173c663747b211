-- The search: pairs are taken while there are any and the budget lasts, and at its end words and entries are cleared: the bodies of `search` and `is_empty`.
use Rattle.std.specs.Prelude.{if◌then◌else◌, Result, Ok, Err, Option, Some, None, ok_or}
use Rattle.std.proofs.Common.{rules}
use mathlib.Core.Path.{◌≡◌, refl, sym, ◌∙◌, ap, subst}
use mathlib.Core.Bool.{Bool, true, false}
use mathlib.Core.List.Memᴰ
use mathlib.Core.List.{List, [], ◌∷◌, Memᴰ}
use Prim.Native.Nat.{ℕ, zero, suc, ◌+◌, ◌*◌, ◌-◌, ◌/◌, ◌≤◌, ◌<◌}
use native.Mathlib.Omega.{arith}
use lib.Dec.{eqb, leb, ltb}
use lib.ListN.{length, get_or, set}
use borrow.Author.Tests.{eqb-true, eqb-false, leb-true, leb-false, lt-ltb, le-ltb}
use Rattle.common.specs.Outcome.{Outcome, refused, given, Step, return, after}
use Rattle.refusal.specs.declared.Refusal.{Refusal}
use Rattle.refusal.specs.Numbers.{number_of}
use Rattle.netkat.specs.Search as Plain
use Rattle.netkat_steps.specs.Handles as Handles
use Rattle.netkat_steps.specs.Handles.{Entry}
use Rattle.sp_steps.specs.Model as Sp
use Rattle.sp_steps.specs.Wf as SpLaws
use Rattle.sp_steps.proofs.Laws as SpLawsProofs
use Rattle.spp_steps.proofs.Laws.{by_test}
use Rattle.aut_query_steps.specs.Tables.{Tables}
use Rattle.aut_query_steps.specs.Search.{capacity, machine, is_empty}
use Rattle.aut_query_stage.specs.Layer.{Zeroed}
use Rattle.aut_query_stage.specs.Lent.{tables_in, QueryAsked, query_layer}
use Rattle.aut_query_stage.proofs.Lent.{query_laws}
use Rattle.aut_states.specs.Clauses.{limits_of}
use Rattle.aut_states.specs.declared.Config.{Config}
use Rattle.aut_relations.specs.declared.Aut.{Aut as Lent}
use Rattle.aut_stage.specs.Rule.{Laws, Post, Stage}
use Rattle.aut_stage.proofs.Rule.{begin, next, instead, done, all_of}
use Rattle.aut_sets.specs.Lent.{sets_in, OnlyMarks, SameLent}
use Rattle.aut_free.specs.Clear.{clear, clear_tables}
use Rattle.aut_free.proofs.Clear.{AtRest}
use Rattle.aut_free.proofs.Clearing.{is_clear, clear_rest}
use Rattle.aut_query_calls.specs.Working.{clear_in, Working, WorkingIn}
use Rattle.aut_query_calls.proofs.Works.{prepared, working_begin, clear_end, marks_clear}
use Rattle.aut_empty_words.specs.Words.{entry_at, entries_of, seen_in, Stack, Puts, Rested, Emptied}
use Rattle.aut_relations.proofs.Kept.{keeps_refl, keeps_trans}
use Rattle.aut_empty_words.proofs.Stacks.{entries_pop, entries_none, entries_put, stack_put, fits_in, seen_none, same_tables}
use Rattle.aut_empty_turn.specs.Clauses.{search_in}
use Rattle.aut_empty_turn.specs.Clauses.{Over, SeekingIn, turn_of}
use Rattle.aut_empty_turn.specs.Clauses.{TurnAsked, Turns}
use Rattle.verdict.specs.declared.Verdict.{Verdict}
use Rattle.verdict.specs.declared.Verdict.TheVariants as verdict
use Rattle.aut_empty.specs.Clauses.{verdict_of, Empties}
use Rattle.aut_empty.specs.Parts.{Searches}

-- ---- search

module _ (𝓒 : Handles.Machine) (seen : ℕ → 𝓒.Handle) (σ : 𝓒.Store) where
  run_none : (left count : ℕ) → Handles.run 𝓒 left [] seen count σ ≡ given σ (Plain.yes, count)
  unfolding Handles.run
  run_none zero count = refl
  run_none (suc left) count = refl

  run_spent : (e : Entry 𝓒.Handle) (es : List (Entry 𝓒.Handle)) (count : ℕ) → Handles.run 𝓒 zero (e ∷ es) seen count σ ≡ given σ (Plain.spent, count)
  unfolding Handles.run
  run_spent e es count = refl

  run_turn : (left : ℕ) (e : Entry 𝓒.Handle) (es : List (Entry 𝓒.Handle)) (count : ℕ)
      → Handles.run 𝓒 (suc left) (e ∷ es) seen count σ ≡ after (Handles.turn 𝓒 e es seen σ) (Handles.onward 𝓒 (λ pending seen. Handles.run 𝓒 left pending seen (suc count)) (suc count))
  unfolding Handles.run
  run_turn left e es count = refl

-- from x₀ on, so many pairs are taken
pub record Sought (k : Config) (x₀ : Lent) (budget n₀ : ℕ) (x : Lent) (n count : ℕ) : Type 0 where
  pub keeps : SameLent x₀ x
  pub within : count ≤ budget
  pub stage : Stage (query_layer k.fields k.limits) 0 1088 (Handles.run (search_in k x₀) budget (entries_of x₀.pending.now n₀) (seen_in k.fields x₀.states.words.now) 0 (clear_in x₀))
      (Handles.run (search_in k x₀) (budget - count) (entries_of x.pending.now n) (seen_in k.fields x.states.words.now) count (clear_in x)) (clear_in x₀) (clear_in x) x₀.scratch.now x.scratch.now
  pub search : SeekingIn k x n

module _ {k : Config} {x₀ : Lent} {n₀ : ℕ} (R : SeekingIn k x₀ n₀) (budget : ℕ) where
  abbrev N : ℕ
  N = k.fields

  abbrev M : Handles.Machine
  M = search_in k x₀

  L : Laws (query_layer k.fields k.limits)
  L = query_laws k.fields k.limits

  abbrev whole : Outcome Tables (Plain.Verdict × ℕ)
  whole = Handles.run M budget (entries_of x₀.pending.now n₀) (seen_in N x₀.states.words.now) 0 (clear_in x₀)

  pub sought_begin : Sought k x₀ budget n₀ x₀ n₀ 0
  sought_begin = record {
    keeps = keeps_refl x₀;
    within = omega arith;
    stage = begin L 0 1088 R.seeking.working.ready (ap (λ (b : ℕ). Handles.run M b (entries_of x₀.pending.now n₀) (seen_in N x₀.states.words.now) 0 (clear_in x₀)) {x = budget} {y = budget - 0} (omega arith));
    search = R;
  }

  over : {x : Lent} {n : ℕ} → SeekingIn k x n → Over N k.limits (tables_in x) x.scratch.now x.pending.now n
  over S = record { working = S.seeking.working; spare = S.seeking.spare; room = S.seeking.stack.room; idle = S.seeking.stack.idle }

  module _ {x : Lent} {n count : ℕ} (I : Sought k x₀ budget n₀ x n count) where
    abbrev p : List ℕ
    p = x.pending.now

    abbrev st : List ℕ
    st = x.states.words.now

    pub sought_yes : n ≤ 0 → Searches k budget n₀ x₀ (Ok (verdict.Yes, count, 0)) x
    sought_yes l = record {
      post = record {
        post = done L 0 1088 (instead L 0 1088 I.stage
            (ap (λ (es : List (Entry ℕ)). Handles.run M (budget - count) es (seen_in N st) count (clear_in x)) (entries_none p n l) ∙ run_none M (seen_in N st) (clear_in x) (budget - count) count)) tt;
      };
      held = subst (λ (z : ℕ). Over N k.limits (tables_in x) x.scratch.now p z) {x = n} {y = 0} (omega arith) (over I.search);
    }

    module _ (some : 0 < n) where
      pub sought_spent : budget ≤ count → Searches k budget n₀ x₀ (Ok (verdict.Spent, count, n)) x
      sought_spent l = record {
        post = record {
          post = done L 0 1088 (instead L 0 1088 I.stage
              (ap (λ (es : List (Entry ℕ)). Handles.run M (budget - count) es (seen_in N st) count (clear_in x)) (entries_pop p n some)
              ∙ ap (λ (z : ℕ). Handles.run M z (entry_at p (n - 1) ∷ entries_of p (n - 1)) (seen_in N st) count (clear_in x)) {x = budget - count} {y = zero} (omega arith)
              ∙ run_spent M (seen_in N st) (clear_in x) (entry_at p (n - 1)) (entries_of p (n - 1)) count)) tt;
        };
        held = over I.search;
      }

      pub turn_asks : TurnAsked k x n
      turn_asks = record { search = I.search; some = some }

      module _ (left : count < budget) where
        abbrev rest : Handles.Turn M → Step Tables (Plain.Verdict × ℕ)
        rest = Handles.onward M (λ pending seen. Handles.run M (budget - (count + 1)) pending seen (suc count)) (suc count)

        taking : Stage (query_layer k.fields k.limits) 0 1088 whole (after (Handles.turn M (entry_at p (n - 1)) (entries_of p (n - 1)) (seen_in N st) (clear_in x)) rest) (clear_in x₀) (clear_in x) x₀.scratch.now x.scratch.now
        taking = instead L 0 1088 I.stage
            (ap (λ (es : List (Entry ℕ)). Handles.run M (budget - count) es (seen_in N st) count (clear_in x)) (entries_pop p n some)
            ∙ ap (λ (z : ℕ). Handles.run M z (entry_at p (n - 1) ∷ entries_of p (n - 1)) (seen_in N st) count (clear_in x)) {x = budget - count} {y = suc (budget - (count + 1))} (omega arith)
            ∙ run_turn M (seen_in N st) (clear_in x) (budget - (count + 1)) (entry_at p (n - 1)) (entries_of p (n - 1)) count)

        module _ {y : Lent} where
          -- what the turn did, with as many entries lent as at the beginning
          came : {r : Result (Option ℕ) Refusal} → Turns k n x r y → Post (query_layer k.fields k.limits) 0 1088 (λ τ v. Unit) (turn_of k (length x₀.pending.now / 2) y.states.words.now y.pending.now)
              (Handles.turn M (entry_at p (n - 1)) (entries_of p (n - 1)) (seen_in N st) (clear_in x)) (clear_in x) r (clear_in y) x.scratch.now y.scratch.now
          came {r} Z = subst (λ (c : ℕ). Post (query_layer k.fields k.limits) 0 1088 (λ τ v. Unit) (turn_of k (c / 2) y.states.words.now y.pending.now)
              (Handles.turn (machine k.fields (limits_of k.limits) (c / 2)) (entry_at p (n - 1)) (entries_of p (n - 1)) (seen_in N st) (clear_in x)) (clear_in x) r (clear_in y) x.scratch.now y.scratch.now) I.keeps.pending.length Z.post.post

          pub sought_stuck : {e : Refusal} {r : Result (Verdict × ℕ × ℕ) Refusal} {z : Lent} → r ≡ Err e → Turns k n x (Err e) y → Searches k budget n₀ x₀ r z
          sought_stuck {e} {r} {z} q Z = subst (λ (r : Result (Verdict × ℕ × ℕ) Refusal). Searches k budget n₀ x₀ r z) (sym q) (record {
            post = record { post = record { is = taking.is ∙ ap (λ (o : Outcome Tables (Handles.Turn M)). after o rest) (came Z).is; then = tt } };
            held = tt;
          })

          module _ {o : Option ℕ} (Z : Turns k n x (Ok o) y) where
            turned : {v : Option ℕ} → o ≡ v → Turns k n x (Ok v) y
            turned q = subst (λ (v : Option ℕ). Turns k n x (Ok v) y) q Z

            pub sought_found : o ≡ None → Searches k budget n₀ x₀ (Ok (verdict.No, count + 1, n - 1)) y
            sought_found q = record {
              post = record {
                post = done L 0 1088 (instead L 0 1088 (next L 0 1088 (came (turned q)) (all_of 0 1088) rest taking)
                    (ap (λ (c : ℕ). given (clear_in y) (Plain.no, c)) {x = suc count} {y = count + 1} (omega arith))) tt;
              };
              held = (turned q).held;
            }

            pub sought_again : {m : ℕ} → o ≡ Some m → SameLent x y → Sought k x₀ budget n₀ y m (count + 1)
            sought_again {m} q K = record {
              keeps = keeps_trans I.keeps K;
              within = omega arith;
              stage = instead L 0 1088 (next L 0 1088 (came (turned q)) (all_of 0 1088) rest taking)
                  (ap (λ (c : ℕ). Handles.run M (budget - (count + 1)) (entries_of y.pending.now m) (seen_in N y.states.words.now) c (clear_in y)) {x = suc count} {y = count + 1} (omega arith));
              search = record { fields = K.spp.fields ∙ I.search.fields; seeking = (turned q).held };
            }

-- ---- is_empty

-- what `ok_or` answered says whether there was room
not_put : (o : Option ℕ) {e : Refusal} → Err e ≡ ok_or o Refusal.Pending → (o ≡ None) × (e ≡ Refusal.Pending)
not_put None q = search rules
not_put (Some m) q = absurd (search rules)

was_put : (o : Option ℕ) {m : ℕ} → Ok m ≡ ok_or o Refusal.Pending → o ≡ Some m
was_put None q = absurd (search rules)
was_put (Some m) q = search rules

module _ {k : Config} {x : Lent} {i : ℕ} (R : QueryAsked k x i) {h : ℕ} (one_is : h ≡ Sp.one_at k.fields) (budget : ℕ) where
  abbrev w0 : List ℕ
  w0 = x.pending.now

  Q : Laws (query_layer k.fields k.limits)
  Q = query_laws k.fields k.limits

  V : WorkingIn k x
  V = working_begin R

  abbrev Told : Result (Verdict × ℕ) Refusal → Tables → List ℕ → Tables → Type 0
  Told r υ s σ = Post (query_layer k.fields k.limits) 0 1088 (λ τ a. Unit) (λ (a : Verdict × ℕ). (verdict_of a.0, a.1)) (is_empty k.fields (limits_of k.limits) (length w0 / 2) budget i σ) σ r υ x.scratch.now s

  -- all that was promised, of the tables with words 8 to 11 zero
  settled : (r : Result (Verdict × ℕ) Refusal) (z : Lent) → Told r (tables_in z) z.scratch.now (clear_in x) → Empties k budget i x r z
  settled r z P = record { post = subst (Told r (tables_in z) z.scratch.now) (clear_end x R.query.ready.resting) P }

  stuck_at : {e : Refusal} {r : Result (Verdict × ℕ) Refusal} (z : Lent) → r ≡ Err e → is_empty k.fields (limits_of k.limits) (length w0 / 2) budget i (clear_in x) ≡ refused (number_of e) → Empties k budget i x r z
  stuck_at {e} {r} z q w = subst (λ (r : Result (Verdict × ℕ) Refusal). Empties k budget i x r z) (sym q) (settled (Err e) z (record { is = w; then = tt }))

  abbrev first : Bool → Step Tables (List (Entry ℕ))
  first b = if b then return (record { state = i; packets = Sp.one_at k.fields } ∷ []) else (λ σ. refused 24)

  abbrev runs : List (Entry ℕ) → Step Tables (Plain.Verdict × ℕ)
  runs pending = Handles.run (search_in k x) budget pending (λ y. Sp.zero_at k.fields) 0

  opens : (b : Bool) → ltb 0 (capacity (length w0 / 2)) ≡ b → is_empty k.fields (limits_of k.limits) (length w0 / 2) budget i (clear_in x) ≡ after (first b (clear_in x)) runs
  unfolding is_empty Handles.search
  opens b q = ap (λ (b : Bool). after (first b (clear_in x)) runs) q

  module _ (o : Option ℕ) {y : Lent} (K1 : OnlyMarks x y) (same : y.states ≡ x.states) (P : Puts o w0 0 i h y.pending.now) where
    put_as : {v : Option ℕ} → o ≡ v → Puts v w0 0 i h y.pending.now
    put_as q = subst (λ (v : Option ℕ). Puts v w0 0 i h y.pending.now) q P

    -- no entry is left
    pub empty_full : {e : Refusal} {r : Result (Verdict × ℕ) Refusal} (z : Lent) → Err e ≡ ok_or o Refusal.Pending → r ≡ Err e → Empties k budget i x r z
    empty_full {e} z q w = let n = not_put o q in stuck_at z w (opens false (le-ltb 0 (capacity (length w0 / 2)) (put_as n.0)) ∙ ap (λ (f : Refusal). refused (number_of f)) (sym n.1))

    -- ---- the first pair is pending

    module _ {m : ℕ} (q : Ok m ≡ ok_or o Refusal.Pending) where
      is_put : Puts (Some m) w0 0 i h y.pending.now
      is_put = put_as (was_put o q)

      abbrev w1 : List ℕ
      w1 = set (set w0 (2 * 0) i) (2 * 0 + 1) h

      tables1 : tables_in y ≡ tables_in x
      tables1 = same_tables K1 same

      at_one : SpLaws.ValidAt (sets_in x) k.fields h
      at_one = subst (SpLaws.ValidAt (sets_in x) k.fields) (sym one_is) (SpLawsProofs.den_one V.working.ready.ordered.sets k.fields (omega arith)).at

      none : seen_in k.fields x.states.words.now ≡ (λ z. Sp.zero_at k.fields)
      none = seen_none k.fields x.states.words.now (λ z. R.query.ready.resting z 8 (omega arith) (omega arith))

      no_entry : (e : Entry ℕ) → Memᴰ e (entries_of w0 0) → ⊥
      no_entry e l = Memᴰ.not-nil (subst (Memᴰ e) (entries_none w0 0 (omega arith)) l)

      stack : Stack k.fields (clear_in x) w1 (0 + 1)
      stack = stack_put w0 0 i h (fits_in w0 0 is_put.1) (record { entries = λ e l. absurd (no_entry e l); room = omega arith; idle = λ j l. R.query.pending j }) R.query.has at_one

      pub search_asks : SeekingIn k y m
      search_asks = record {
        fields = rw K1.spp V.fields;
        seeking = record {
          working = rw K1.scratch (subst (λ (τ : Tables). Working k.fields k.limits τ x.scratch.now) (sym tables1) V.working);
          stack = rw is_put.2 (rw is_put.0 (subst (λ (τ : Tables). Stack k.fields (clear_tables τ) w1 (0 + 1)) (sym tables1) stack));
          seen = λ z. rw K1.sp (rw same (subst (λ (f : ℕ → ℕ). SpLaws.ValidAt (sets_in x) k.fields (f z)) (sym none) (SpLawsProofs.zero_at_lem V.working.ready.ordered.sets k.fields (omega arith))));
          spare = rw same (λ z w a b. R.query.ready.resting z w (omega arith) b);
        };
      }

      abbrev running : (lent : ℕ) → List (Entry ℕ) → (ℕ → ℕ) → Tables → Outcome Tables (Plain.Verdict × ℕ)
      running lent es f τ = Handles.run (machine k.fields (limits_of k.limits) (lent / 2)) budget es f 0 (clear_tables τ)

      entries1 : entries_of y.pending.now m ≡ record { state = i; packets = h } ∷ []
      entries1 = rw is_put.2 (rw is_put.0 (entries_put w0 0 i h (fits_in w0 0 is_put.1) ∙ ap (λ (es : List (Entry ℕ)). record { state = i; packets = h } ∷ es) (entries_none w0 0 (omega arith))))

      -- the run from there is the whole search
      same_run : is_empty k.fields (limits_of k.limits) (length w0 / 2) budget i (clear_in x) ≡ running (length y.pending.now) (entries_of y.pending.now m) (seen_in k.fields y.states.words.now) (tables_in y)
      same_run =
          opens true (lt-ltb 0 (capacity (length w0 / 2)) is_put.1)
          ∙ ap (λ (g : ℕ). running (length w0) (record { state = i; packets = g } ∷ []) (λ z. Sp.zero_at k.fields) (tables_in x)) (sym one_is)
          ∙ ap (λ (es : List (Entry ℕ)). running (length w0) es (λ z. Sp.zero_at k.fields) (tables_in x)) (sym entries1)
          ∙ ap (λ (f : ℕ → ℕ). running (length w0) (entries_of y.pending.now m) f (tables_in x)) (sym none ∙ rw same refl)
          ∙ ap (λ (c : ℕ). running c (entries_of y.pending.now m) (seen_in k.fields y.states.words.now) (tables_in x)) (sym K1.pending.length)
          ∙ ap (running (length y.pending.now) (entries_of y.pending.now m) (seen_in k.fields y.states.words.now)) (sym tables1)

      module _ {y2 : Lent} where
        pub empty_stuck : {e : Refusal} {r : Result (Verdict × ℕ) Refusal} (z : Lent) → r ≡ Err e → Searches k budget m y (Err e) y2 → Empties k budget i x r z
        empty_stuck z w Z = stuck_at z w (same_run ∙ Z.post.post.is)

        -- ---- words and entries are cleared

        module _ {v : Verdict} {count n : ℕ} (Z : Searches k budget m y (Ok (v, count, n)) y2) where
          pub clear_seen_asks : 12 * y2.states.count ≤ length y2.states.words.now
          clear_seen_asks = (prepared y2 Z.held.working).worked.good.fits

          module _ {y3 : Lent} (K3 : OnlyMarks y2 y3) (same3 : y3.pending ≡ y2.pending) (X : Rested y2.states.words.now y2.states.count y3.states.words.now) where
            pub clear_pending_asks : 2 * n ≤ length y3.pending.now
            clear_pending_asks = rw same3 Z.held.room

            at_rest : AtRest y3.states.words.now
            at_rest z w a b = by_test (eqb w 8)
                (λ e. subst (λ (w : ℕ). get_or y3.states.words.now (12 * z + w) 0 ≡ 0) (sym (eqb-true w 8 e)) (by_test (leb y2.states.count z)
                (λ o. X.beyond z (leb-true y2.states.count z o) ∙ Z.held.working.fresh (12 * z + 8) (omega (arith, leb-true y2.states.count z o)))
                (λ o. X.zero z (leb-false y2.states.count z o))))
                (λ e. X.kept z w b (eqb-false w 8 e) ∙ Z.held.spare z w (omega (arith, eqb-false w 8 e)) b)

            cleared : clear y3.states.words.now ≡ clear y2.states.words.now
            cleared = clear_rest y3.states.words.now at_rest ∙ is_clear y3.states.words.now y2.states.words.now K3.states.length (λ z w a. X.kept z w (omega arith) (λ e. omega arith)) at_rest

            module _ {y4 : Lent} (K4 : OnlyMarks y3 y4) (same4 : y4.states ≡ y3.states) (E : Emptied y3.pending.now n y4.pending.now) where
              tables4 : tables_in y4 ≡ clear_in y2
              tables4 = same_tables K4 same4 ∙ sym (clear_end y3 at_rest) ∙ marks_clear K3 cleared

              pub empty_pending : Zeroed y4.pending.now
              empty_pending j = by_test (leb (2 * n) j) (λ o. E.beyond j (leb-true (2 * n) j o) ∙ rw same3 (Z.held.idle j (leb-true (2 * n) j o))) (λ o. E.zero j (leb-false (2 * n) j o))

              stage : Stage (query_layer k.fields k.limits) 0 1088 (is_empty k.fields (limits_of k.limits) (length w0 / 2) budget i (clear_in x)) (given (clear_in y2) (verdict_of v, count)) (clear_in y) (clear_in y2) y.scratch.now y2.scratch.now
              stage = let c = Z.post.post.then in record { ext = c.ext; frame = c.frame; ready = c.ready; is = same_run ∙ Z.post.post.is }

              -- .. from the tables before, to those at the end
              stage4 : Stage (query_layer k.fields k.limits) 0 1088 (is_empty k.fields (limits_of k.limits) (length w0 / 2) budget i (clear_in x)) (given (tables_in y4) (verdict_of v, count)) (clear_in x) (tables_in y4) x.scratch.now y4.scratch.now
              stage4 = rw K4.scratch (rw K3.scratch (subst (λ (τ : Tables). Stage (query_layer k.fields k.limits) 0 1088 (is_empty k.fields (limits_of k.limits) (length w0 / 2) budget i (clear_in x)) (given τ (verdict_of v, count)) (clear_in x) τ x.scratch.now y2.scratch.now) (sym tables4)
                  (subst (λ (τ : Tables). Stage (query_layer k.fields k.limits) 0 1088 (is_empty k.fields (limits_of k.limits) (length w0 / 2) budget i (clear_in x)) (given (clear_in y2) (verdict_of v, count)) (clear_tables τ) (clear_in y2) x.scratch.now y2.scratch.now) tables1
                  (rw (sym K1.scratch) stage))))

              pub empty_done : Empties k budget i x (Ok (v, count)) y4
              empty_done = settled (Ok (v, count)) y4 (done Q 0 1088 stage4 tt)
