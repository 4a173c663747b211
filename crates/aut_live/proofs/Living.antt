-- live_sets and live_packets: the walk and then the work list, by the rule for a run of calls (aut_stage); words 7 are written, words 9 and the entries cleared.
use Rattle.std.specs.Prelude.{Some, None, Result, Ok, Err, if◌then◌else◌}
use mathlib.Core.Path.{◌≡◌, refl, sym, ◌∙◌, ap, ap₂, subst, fun_ext}
use mathlib.Core.Logic.{◌≢◌, ◌⊎◌, inl, inr}
use mathlib.Core.Bool.{Bool}
use mathlib.Core.List.Memᴰ
use mathlib.Core.List.{List, [], ◌∷◌, ◌++◌, reverse, Memᴰ}
use Prim.Native.Nat.{ℕ, zero, suc, ◌+◌, ◌*◌, ◌-◌, ◌/◌, ◌%◌, ◌≤◌, ◌<◌}
use native.Mathlib.Omega.{arith}
use lib.Dec.{eqb, ltb}
use lib.ListN.{length, get_or, set, length-set}
use lib.Seq.{get_or-set_same, get_or-set_other, set_out}
use borrow.Author.Tests.{eqb-true, eqb-false, ltb-true, ltb-false, lt-ltb, le-ltb}
use Rattle.std.specs.Result.{IsErr, IsErrAnd}
use Rattle.common.specs.Outcome.{Outcome, refused, given, Step, return, after}
use Rattle.common.proofs.Follow.{given_of}
use Rattle.common.specs.Runs.{Table, table}
use Rattle.refusal.specs.declared.Refusal.{Refusal}
use Rattle.refusal.specs.declared.Refusal.TheVariants.{Pending}
use Rattle.refusal.proofs.Passed.{passed}
use Rattle.sp_steps.specs.Model as Sp
use Rattle.sp_steps.specs.Wf as SpLaws
use Rattle.sp.specs.declared.SP.{SP}
use Rattle.spp_steps.proofs.Laws.{by_test}
use Rattle.aut_steps.specs.Tables as Aut
use Rattle.aut_steps.specs.Tables.{put_states}
use Rattle.aut_delta_steps.specs.Epsilon.{set_word}
use Rattle.aut_delta_steps.specs.Delta.{store}
use Rattle.aut_query_steps.specs.Tables.{Tables, put_base, live_of}
use Rattle.aut_query_steps.specs.Search.{capacity}
use Rattle.aut_query_steps.proofs.Steps.{ends_gives}
use Rattle.aut_query_steps.specs.Live as M
use Rattle.aut_query_steps.specs.Live.{Found, found, work, takes, keep_in, keep_lives, live_sets, live_anew, live_packets}
use Rattle.aut_query_steps.proofs.ExploreLaws as ExploreLaws
use Rattle.aut_query_steps.proofs.ExploreLaws.{explore_ends}
use Rattle.aut_query_steps.proofs.SettleLaws as SettleLaws
use Rattle.aut_query_steps.proofs.LiveLaws as LiveLaws
use Rattle.aut_query_steps.proofs.LiveLaws.{live_goes}
use Rattle.aut_query_stage.specs.Layer.{Zeroed, PreQuery}
use Rattle.aut_query_stage.specs.Lent.{tables_in, QueryAsked, Leaves, query_layer, GoesQuery}
use Rattle.aut_query_stage.proofs.Lent.{query_ready, query_laws}
use Rattle.aut_states.specs.Clauses.{limits_of}
use Rattle.aut_states.specs.declared.Config.{Config}
use Rattle.aut_relations.specs.declared.Aut.{Aut as Lent}
use Rattle.aut_stage.specs.Rule.{Stage}
use Rattle.aut_stage.proofs.Rule.{begin, next, stuck, instead, done, all_of}
use Rattle.aut_sets.specs.Lent.{OnlyMarks, SameLent}
use Rattle.aut_free.specs.Clear.{clear, clear_tables}
use Rattle.aut_free.proofs.Clear.{AtRest}
use Rattle.aut_free.proofs.Clearing.{clear_rest, is_clear}
use Rattle.aut_free.proofs.Free.{clear_keep_lives}
use Rattle.aut_query_calls.specs.Working.{clear_in}
use Rattle.aut_query_calls.specs.Working.{SetIn}
use Rattle.aut_query_calls.proofs.Works.{working_begin}
use Rattle.aut_relations.proofs.Kept.{keeps_trans}
use Rattle.aut_live_words.specs.Work.{work_of, live_by, seconds, stack, Held, Doubled, Reaches, there, new, full, copy_words, clear_words}
use Rattle.aut_live_words.specs.Clauses.{PreReach, PreKeep, PostClear}
use Rattle.aut_live_words.proofs.Words.{seconds_same, seconds_split, seconds_one, copy_other}
use Rattle.aut_live_words.proofs.Held.{live_reached, live_fresh, held_fits, held_reached, held_listed, held_second, held_there, reverse_behind, seconds_new, tables_marked, Moved, reach_moved}
use Rattle.aut_query_calls.specs.Working.{with_words}
use Rattle.aut_live_reach.specs.Clauses.{ExploreAsked, exploring, Explores}
use Rattle.aut_live_pull.specs.Clauses.{work_in, SettleReady, settling, Settled}
use Rattle.aut_live.specs.Clauses.{SetsAt}

-- ---- entries

no_seconds : (p : List ℕ) → seconds p 0 0 ≡ []
unfolding seconds
no_seconds p = refl

doubled_stack : (p : List ℕ) (n : ℕ) → Doubled p n → stack p n ≡ reverse (seconds p 0 n)
unfolding stack seconds
doubled_stack p zero d = refl
doubled_stack p (suc n) d =
    ap₂ (λ (x : ℕ) (l : List ℕ). x ∷ l) (d n (omega arith)) (doubled_stack p n (λ i a. d i (omega arith)))
    ∙ sym (ap reverse (ap (seconds p 0) {x = suc n} {y = n + 1} (omega arith) ∙ seconds_split p 0 n 1 ∙ ap (λ (l : List ℕ). seconds p 0 n ++ l) (ap (λ (a : ℕ). seconds p a 1) {x = 0 + n} {y = n} (omega arith) ∙ seconds_one p n)) ∙ reverse_behind (seconds p 0 n) (get_or p (2 * n + 1) 0))

work_seven : (st : List ℕ) (y v z : ℕ) → work_of (set st (12 * y + 7) v) z ≡ work_of st z
unfolding work_of
work_seven st y v z = get_or-set_other st (12 * y + 7) (12 * z + 9) v 0 (λ q. omega arith)

-- ---- where it begins

module _ {k : Config} {x : Lent} {i : ℕ} (Q : QueryAsked k x i) where
  abbrev N : ℕ
  N = k.fields

  abbrev L : Aut.Limits
  L = limits_of k.limits

  abbrev P : PreQuery k.fields k.limits (tables_in x) x.scratch.now x.pending.now i
  P = Q.query

  abbrev σ : Tables
  σ = tables_in x

  abbrev st₀ : List ℕ
  st₀ = x.states.words.now

  abbrev p₀ : List ℕ
  p₀ = x.pending.now

  abbrev lent : ℕ
  lent = length x.pending.now / 2

  resting : (y : ℕ) → work_of st₀ y ≡ 0
  unfolding work_of
  resting y = P.ready.resting y 9 (omega arith) (omega arith)

  H₀ : Held k.fields k.limits σ x.scratch.now p₀ 0 0
  unfolding seconds
  H₀ = record {
    working = (working_begin Q).working;
    marked = λ y. ap (ltb 0) (sym (resting y));
    sets = λ y a. absurd (omega (arith, resting y));
    rest = λ y w a b n. P.ready.resting y w a b;
    todo = λ i a. P.pending (2 * i);
    after = λ i a. P.pending (2 * i + 1);
    room = omega arith;
    high = omega arith;
  }

  pub sets_reach : PreReach N st₀ p₀ 0 i
  sets_reach = record { few = P.ready.ready.few; state = held_fits H₀ i P.has; fits = omega arith }

  -- the first entry is taken
  record First (st1 p1 : List ℕ) : Type 0 where
    pub room : 0 < capacity lent
    pub moved : Moved k.fields k.limits σ x.scratch.now p₀ 0 st1 p1 1
    pub entry : seconds p1 0 1 ≡ i ∷ []

  first : {n : ℕ} {st1 p1 : List ℕ} → Reaches N (capacity lent) 0 i st₀ p₀ (Some n) st1 p1 → First st1 p1
  first (there a) = absurd (omega (arith, resting i))
  first (new w r) = record { room = r; moved = reach_moved H₀ P.has (new w r); entry = seconds_new p₀ 0 i (omega (arith, r)) ∙ ap (λ (a : List ℕ). a ++ i ∷ []) (no_seconds p₀) }

  none : {st1 p1 : List ℕ} → Reaches N (capacity lent) 0 i st₀ p₀ None st1 p1 → capacity lent ≤ 0
  none (full w r) = r

  abbrev k1 : Found → Step Tables Found
  k1 f τ = after (M.settle N L lent (takes N L lent f.states) f.states (work (reverse f.states) f.live) τ) (λ live. return (found f.states live))

  abbrev m1 : Step Tables Found
  m1 τ = after (M.explore N L lent (capacity lent) [] (i ∷ []) (λ t. Sp.zero_at N) τ) k1

  abbrev none_left : Step Tables Found
  none_left τ = refused 24

  abbrev whole : Outcome Tables Found
  whole = live_sets N L lent i σ

  -- no entry is left
  pub sets_full : {y : Lent} {r : Result ℕ Refusal} → r ≡ Err Pending → Reaches N (capacity lent) 0 i st₀ p₀ None y.states.words.now y.pending.now → SetsAt k i x r y
  unfolding live_sets
  sets_full {y} q A = subst (λ (r : Result ℕ Refusal). SetsAt k i x r y) (sym q)
      (record { post = record { is = ap (λ (b : Bool). (if b then m1 else none_left) σ) (le-ltb 0 (capacity lent) (none A)); then = tt }; held = tt })

  module _ {y : Lent} (K : OnlyMarks x y) {n : ℕ} (A : Reaches N (capacity lent) 0 i st₀ p₀ (Some n) y.states.words.now y.pending.now) where
    F : First y.states.words.now y.pending.now
    F = first A

    pub sets_explore : ExploreAsked k y
    sets_explore = record {
      fields = rw K.spp Q.fields;
      held = subst (λ (τ : Tables). Held k.fields k.limits τ y.scratch.now y.pending.now 1 1) (sym (tables_marked K)) (rw K.scratch F.moved.held);
      doubled = F.moved.doubled (λ i a. absurd (omega arith));
    }

    cleared : clear_in y ≡ σ
    cleared = ap clear_tables (tables_marked K) ∙ ap (λ (u : List ℕ). with_words u σ) (F.moved.clear ∙ clear_rest st₀ P.ready.resting)

    -- the walk begins as the step's
    walk_is : M.explore N L lent (capacity lent) [] (i ∷ []) (λ t. Sp.zero_at N) σ ≡ exploring k y (clear_in y)
    walk_is =
        ap₂ (λ (a : List ℕ) (τ : Tables). M.explore N L lent (capacity lent) [] a (λ t. Sp.zero_at N) τ) (sym F.entry) (sym cleared)
        ∙ ap₂ (λ (m : ℕ) (live : ℕ → ℕ). M.explore N L (m / 2) (capacity (m / 2)) [] (seconds y.pending.now 0 1) live (clear_in y)) (sym F.moved.len) (sym (fun_ext (λ u. F.moved.live u ∙ live_fresh N st₀ u (resting u))))
        ∙ ap (λ (a : List ℕ). M.explore N L (length y.pending.now / 2) (capacity (length y.pending.now / 2)) a (seconds y.pending.now 0 1) (live_by N y.states.words.now) (clear_in y)) (sym (no_seconds y.pending.now))

    whole_0 : Stage (query_layer k.fields k.limits) 0 1088 whole (after (exploring k y (clear_in y)) k1) σ (clear_in y) x.scratch.now y.scratch.now
    unfolding live_sets
    whole_0 = subst (λ (τ : Tables). Stage (query_layer k.fields k.limits) 0 1088 whole (after (exploring k y (clear_in y)) k1) σ τ x.scratch.now y.scratch.now) (sym cleared)
        (rw K.scratch (begin (query_laws k.fields k.limits) 0 1088 P.ready
        (ap (λ (b : Bool). (if b then m1 else none_left) σ) (lt-ltb 0 (capacity lent) F.room)
        ∙ ap (λ (o : Outcome Tables Found). after o k1) walk_is)))

    module _ {z : Lent} where
      pub sets_stuck : {e : Refusal} {r : Result ℕ Refusal} → IsErr r × IsErrAnd r (λ a. a ≡ e) → Explores k y (Err e) z → SetsAt k i x r z
      sets_stuck q X = subst (λ (r : Result ℕ Refusal). SetsAt k i x r z) (sym (passed q)) (record { post = stuck (query_laws k.fields k.limits) 0 1088 X.post.post k1 whole_0; held = tt })

      module _ (S : SameLent y z) {m : ℕ} (X : Explores k y (Ok m) z) where
        abbrev ss : List ℕ
        ss = seconds z.pending.now 0 m

        whole_1 : Stage (query_layer k.fields k.limits) 0 1088 whole (k1 (found ss (live_by N z.states.words.now)) (clear_in z)) σ (clear_in z) x.scratch.now z.scratch.now
        whole_1 = next (query_laws k.fields k.limits) 0 1088 X.post.post (all_of 0 1088) k1 whole_0

        law : ExploreLaws.Explored N L (capacity lent) ([] ++ i ∷ []) σ (clear_in z) (found ss (live_by N z.states.words.now))
        law = given_of (ends_gives (explore_ends lent (capacity lent) [] (i ∷ []) (λ t. Sp.zero_at N) (LiveLaws.begins lent P.ready.ordered P.has F.room) (omega arith))) (walk_is ∙ X.post.post.is)

        stack_is : stack z.pending.now m ≡ reverse ss
        stack_is = doubled_stack z.pending.now m X.doubled

        lent_is : length z.pending.now ≡ length p₀
        lent_is = S.pending.length ∙ K.pending.length

        pub sets_settle : SettleReady k z m
        sets_settle = record {
          held = X.held;
          links = law.links;
          pulls = subst (λ (j : ℕ). SettleLaws.Pulls (clear_in z).base X.held.working.ready.ordered.worked ss law.links (takes N L (j / 2) ss) [] (clear_in z) (work_in k z m)) (sym lent_is)
              (subst (λ (todo : List ℕ). SettleLaws.Pulls (clear_in z).base X.held.working.ready.ordered.worked ss law.links (takes N L lent ss) [] (clear_in z) (work todo (live_by N z.states.words.now))) (sym stack_is)
              (SettleLaws.begins (clear_in z).base X.held.working.ready.ordered.worked ss law.links lent (clear_in z) (live_by N z.states.words.now) refl X.held.working.ready.ordered law.some law.sets));
        }

        settle_is : k1 (found ss (live_by N z.states.words.now)) (clear_in z) ≡ after (settling k z m (clear_in z)) (λ live. return (found ss live))
        settle_is = ap₂ (λ (j : ℕ) (todo : List ℕ). after (M.settle N L (j / 2) (takes N L (j / 2) ss) ss (work todo (live_by N z.states.words.now)) (clear_in z)) (λ live. return (found ss live))) (sym lent_is) (sym stack_is)

        whole_2 : Stage (query_layer k.fields k.limits) 0 1088 whole (after (settling k z m (clear_in z)) (λ live. return (found ss live))) σ (clear_in z) x.scratch.now z.scratch.now
        whole_2 = instead (query_laws k.fields k.limits) 0 1088 whole_1 settle_is

        module _ {u : Lent} where
          pub sets_unsettled : {e : Refusal} {r : Result ℕ Refusal} → IsErr r × IsErrAnd r (λ a. a ≡ e) → Settled k m z (Err e) u → SetsAt k i x r u
          sets_unsettled q Z = subst (λ (r : Result ℕ Refusal). SetsAt k i x r u) (sym (passed q)) (record { post = stuck (query_laws k.fields k.limits) 0 1088 Z.post.post (λ live. return (found ss live)) whole_2; held = tt })

          pub sets_done : Settled k m z (Ok tt) u → SetsAt k i x (Ok m) u
          sets_done Z = record {
            post = done (query_laws k.fields k.limits) 0 1088
                (instead (query_laws k.fields k.limits) 0 1088 (next (query_laws k.fields k.limits) 0 1088 Z.post.post (record { from = omega arith; to = omega arith }) (λ live. return (found ss live)) whole_2)
                (ap (λ (xs : List ℕ). given (clear_in u) (found xs (live_by N u.states.words.now))) (sym (seconds_same z.pending.now u.pending.now 0 m (λ i a b. Z.second i)))))
                tt;
            held = Z.held;
          }

-- ---- words 7 are written

-- of states whose words 9 are their sets + 1
pub kept_is : (xs : List ℕ) (live : ℕ → ℕ) (st : List ℕ) (k : ℕ) → ((y : ℕ) → Memᴰ y xs → work_of st y ≡ live y + 1) → table (copy_words 9 7 xs st) k ≡ keep_in xs live (table st k)
unfolding copy_words work_of keep_in set_word
kept_is [] live st k f = refl
kept_is (y ∷ xs) live st k f =
    kept_is xs live (set st (12 * y + 7) (work_of st y)) k (λ z m. work_seven st y (work_of st y) z ∙ f z (Memᴰ.tail m))
    ∙ ap (λ (v : ℕ). keep_in xs live (table (set st (12 * y + 7) v) k)) (f y (Memᴰ.head refl))

-- ---- words 9 are cleared

clear_length' : (xs st : List ℕ) → length (clear_words xs st) ≡ length st
unfolding clear_words
clear_length' [] st = refl
clear_length' (y ∷ xs) st = clear_length' xs (set st (12 * y + 9) 0) ∙ length-set st (12 * y + 9) 0

clear_other : (xs st : List ℕ) (z w : ℕ) → w < 12 → w ≢ 9 → get_or (clear_words xs st) (12 * z + w) 0 ≡ get_or st (12 * z + w) 0
unfolding clear_words
clear_other [] st z w a n = refl
clear_other (y ∷ xs) st z w a n = clear_other xs (set st (12 * y + 9) 0) z w a n ∙ get_or-set_other st (12 * y + 9) (12 * z + w) 0 0 (λ q. n (omega arith))

-- a word that is zero stays so
clear_stays : (xs st : List ℕ) (z : ℕ) → get_or st (12 * z + 9) 0 ≡ 0 → get_or (clear_words xs st) (12 * z + 9) 0 ≡ 0
unfolding clear_words
clear_stays [] st z q = q
clear_stays (y ∷ xs) st z q = clear_stays xs (set st (12 * y + 9) 0) z (by_test (eqb z y)
    (λ b. by_test (ltb (12 * y + 9) (length st))
    (λ t. ap (λ (i : ℕ). get_or (set st (12 * y + 9) 0) (12 * i + 9) 0) (eqb-true z y b) ∙ get_or-set_same st (12 * y + 9) 0 0 (ltb-true (12 * y + 9) (length st) t))
    (λ t. ap (λ (u : List ℕ). get_or u (12 * z + 9) 0) (set_out st (12 * y + 9) 0 (ltb-false (12 * y + 9) (length st) t)) ∙ q))
    (λ b. get_or-set_other st (12 * y + 9) (12 * z + 9) 0 0 (λ e. eqb-false z y b (omega arith)) ∙ q))

clear_members : (xs st : List ℕ) (z : ℕ) → Memᴰ z xs → 12 * z + 9 < length st → get_or (clear_words xs st) (12 * z + 9) 0 ≡ 0
unfolding clear_words
clear_members (y ∷ xs) st z m l = go (Memᴰ.cases_cons m) (λ k. clear_members xs (set st (12 * y + 9) 0) z k (subst (λ (n : ℕ). 12 * z + 9 < n) (sym (length-set st (12 * y + 9) 0)) l))
  where
    go : (z ≡ y) ⊎ Memᴰ z xs → (Memᴰ z xs → get_or (clear_words xs (set st (12 * y + 9) 0)) (12 * z + 9) 0 ≡ 0) → get_or (clear_words xs (set st (12 * y + 9) 0)) (12 * z + 9) 0 ≡ 0
    go (inl q) f = clear_stays xs (set st (12 * y + 9) 0) z (ap (λ (i : ℕ). get_or (set st (12 * y + 9) 0) (12 * i + 9) 0) q ∙ get_or-set_same st (12 * y + 9) 0 0 (subst (λ (i : ℕ). 12 * i + 9 < length st) q l))
    go (inr k) f = f k
clear_members [] st z m l = elim m [ ]

-- ---- live_packets

-- what a query for the live set of i promises
abbrev pub Lives : Config → (i : ℕ) → Lent → Result SP Refusal → Lent → Type 0
Lives k i x r y = GoesQuery k 0 1088 tables_in (SetIn k.fields) (λ h. h.0) (live_packets k.fields (limits_of k.limits) (length x.pending.now / 2) i) x r y

module _ {k : Config} {x : Lent} {i : ℕ} (Q : QueryAsked k x i) where
  abbrev word : ℕ
  word = get_or x.states.words.now (12 * i + 7) 0

  abbrev anew_by : Outcome Tables ℕ
  anew_by = live_anew k.fields (limits_of k.limits) (length x.pending.now / 2) i (tables_in x)

  pub live_word : 12 * i + 11 < length x.states.words.now
  live_word = (sets_reach Q).state

  -- a set that is stored
  pub live_stored : {h : SP} → (0 < word) × (h.0 ≡ word - 1) → Lives k i x (Ok h) x
  unfolding live_packets live_of
  live_stored (a, q) = rw q (record {
    post = done (query_laws k.fields k.limits) 0 1088
        (begin (query_laws k.fields k.limits) 0 1088 Q.query.ready
        (ap (λ (b : Bool). if b then given (tables_in x) (word - 1) else anew_by) (lt-ltb 0 word a)))
        (Q.query.ready.ordered.lives.kept i Q.query.has (word - 1) (omega (arith, a))).den.at;
  })

  abbrev then_kept : Found → Step Tables ℕ
  then_kept f τ = given (keep_lives f.states f.live τ) (f.live i)

  anew : word ≡ 0 → live_packets k.fields (limits_of k.limits) (length x.pending.now / 2) i (tables_in x) ≡ after (live_sets k.fields (limits_of k.limits) (length x.pending.now / 2) i (tables_in x)) then_kept
  unfolding live_packets live_anew live_of
  anew a = ap (λ (b : Bool). if b then given (tables_in x) (word - 1) else anew_by) (le-ltb 0 word (omega (arith, a)))

  module _ (free : word ≡ 0) {y : Lent} where
    pub live_refused : {e : Refusal} {r : Result SP Refusal} → IsErr r × IsErrAnd r (λ a. a ≡ e) → SetsAt k i x (Err e) y → Lives k i x r y
    live_refused q S = subst (λ (r : Result SP Refusal). Lives k i x r y) (sym (passed q))
        (record { post = record { is = anew free ∙ ap (λ (o : Outcome Tables Found). after o then_kept) S.post.is; then = tt } })

    module _ {n : ℕ} (S : SetsAt k i x (Ok n) y) where
      abbrev xs : List ℕ
      xs = seconds y.pending.now 0 n

      abbrev st1 : List ℕ
      st1 = y.states.words.now

      reach : LiveLaws.Reached k.fields (limits_of k.limits) (capacity (length x.pending.now / 2)) i (tables_in x) (clear_in y) (found xs (live_by k.fields st1))
      reach = given_of (ends_gives (LiveLaws.sets_ends (length x.pending.now / 2) Q.query.ready.ordered Q.query.has)) S.post.is

      here : 0 < work_of st1 i
      here = held_reached S.held i reach.has

      pub live_set : (12 * i + 9 < length st1) × (0 < get_or st1 (12 * i + 9) 0)
      unfolding work_of
      live_set = (omega (arith, held_there S.held i here), here)

      pub live_keeps : PreKeep st1 y.pending.now n
      live_keeps = record { fits = omega (arith, S.held.room); states = λ j a. held_there S.held (get_or y.pending.now (2 * j + 1) 0) (held_second S.held j a) }

      module _ {z : Lent} (K : OnlyMarks y z) (same : z.pending ≡ y.pending) (G : z.states.words.now ≡ copy_words 9 7 xs st1) where
        abbrev st2 : List ℕ
        st2 = z.states.words.now

        pub live_clears : PreKeep z.states.words.now z.pending.now n
        live_clears = rw same (record { fits = live_keeps.fits; states = λ j a. omega (arith, live_keeps.states j a, K.states.length) })

        module _ {u : Lent} (K' : OnlyMarks z u) (E' : PostClear n z.states.words.now z.pending.now u.states.words.now u.pending.now) where
          abbrev st3 : List ℕ
          st3 = u.states.words.now

          E : PostClear n st2 y.pending.now st3 u.pending.now
          E = rw same at E'

          -- from the live sets on
          marks : OnlyMarks y u
          marks = keeps_trans K K'

          word_same : (v w : ℕ) → 8 ≤ w → w < 12 → get_or st2 (12 * v + w) 0 ≡ get_or st1 (12 * v + w) 0
          word_same v w a b = ap (λ (u : List ℕ). get_or u (12 * v + w) 0) G ∙ copy_other 9 7 (omega arith) xs st1 v w b (λ q. omega arith)

          at_rest : AtRest st3
          unfolding work_of
          at_rest v w a b = ap (λ (u : List ℕ). get_or u (12 * v + w) 0) E.is ∙ by_test (eqb w 9)
              (λ b9. let q : w ≡ 9 = eqb-true w 9 b9 in
              subst (λ (w : ℕ). get_or (clear_words xs st2) (12 * v + w) 0 ≡ 0) (sym q)
              (by_test (ltb 0 (get_or st1 (12 * v + 9) 0))
              (λ t. let m = ltb-true 0 (get_or st1 (12 * v + 9) 0) t in clear_members xs st2 v (held_listed S.held v m) (omega (arith, held_there S.held v m, K.states.length)))
              (λ t. clear_stays xs st2 v (word_same v 9 (omega arith) (omega arith) ∙ omega (arith, ltb-false 0 (get_or st1 (12 * v + 9) 0) t)))))
              (λ b9. let q : (w ≡ 9 → ⊥) = eqb-false w 9 b9 in clear_other xs st2 v w b (λ e. q e) ∙ word_same v w a b ∙ S.held.rest v w a b (λ e. q e))

          cleared_is : st3 ≡ clear st2
          cleared_is = is_clear st3 st2 (ap length E.is ∙ clear_length' xs st2)
              (λ v w a. ap (λ (u : List ℕ). get_or u (12 * v + w) 0) E.is ∙ clear_other xs st2 v w (omega arith) (λ q. omega arith)) at_rest

          tables_are : tables_in u ≡ keep_lives xs (live_by k.fields st1) (clear_in y)
          tables_are =
              tables_marked marks ∙ ap (λ (a : List ℕ). with_words a (tables_in y)) (cleared_is ∙ ap clear G)
              ∙ ap (λ (t : Table). clear_tables (put_base (store (put_states t (tables_in y).base.aut) (tables_in y).base.transitions) (tables_in y)))
              (kept_is xs (live_by k.fields st1) st1 y.states.count (λ v m. let a = held_reached S.held v m in omega (arith, live_reached k.fields st1 v a, a)))
              ∙ clear_keep_lives xs (live_by k.fields st1) (tables_in y)

          whole_is : live_packets k.fields (limits_of k.limits) (length x.pending.now / 2) i (tables_in x) ≡ given (tables_in u) (live_by k.fields st1 i)
          whole_is = anew free ∙ ap (λ (o : Outcome Tables Found). after o then_kept) S.post.is ∙ ap (λ (τ : Tables). given τ (live_by k.fields st1 i)) (sym tables_are)

          law_live : LiveLaws.Lived k.fields (limits_of k.limits) i (tables_in x) (tables_in u) (live_by k.fields st1 i)
          law_live = given_of (live_goes (length x.pending.now / 2) Q.query.ready.ordered Q.query.has) whole_is

          pub live_zeroed : Zeroed u.pending.now
          live_zeroed j = by_test (eqb (j % 2) 0)
              (λ b. subst (λ (j : ℕ). get_or u.pending.now j 0 ≡ 0) {x = 2 * (j / 2)} {y = j} (omega (arith, eqb-true (j % 2) 0 b)) (E.pending.first (j / 2) ∙ S.held.todo (j / 2) (omega arith)))
              (λ b. let q : (j % 2 ≡ 0 → ⊥) = eqb-false (j % 2) 0 b in
              subst (λ (j : ℕ). get_or u.pending.now j 0 ≡ 0) {x = 2 * (j / 2) + 1} {y = j} (omega (arith, q)) (odd (j / 2)))
            where
              odd : (j : ℕ) → get_or u.pending.now (2 * j + 1) 0 ≡ 0
              odd j = by_test (ltb j n) (λ t. E.pending.within j (ltb-true j n t)) (λ t. E.pending.beyond j (ltb-false j n t) ∙ S.held.after j (ltb-false j n t))

          frame : Leaves k.fields 0 1088 (tables_in u) x.scratch.now u.scratch.now
          frame = let f = S.post.then.frame in
              subst (λ (τ : Tables). Leaves k.fields 0 1088 τ x.scratch.now u.scratch.now) (sym (tables_marked marks)) (rw marks.scratch (record { below = f.below; above = f.above; notes = f.notes }))

          pub live_done : SameLent x y → {h : SP} → h.0 ≡ get_or st1 (12 * i + 9) 0 - 1 → Lives k i x (Ok h) u
          unfolding work_of
          live_done C q =
              let v : live_by k.fields st1 i ≡ get_or st1 (12 * i + 9) 0 - 1 = live_reached k.fields st1 i here in
              rw q (record {
                post = record {
                  is = whole_is ∙ ap (λ (w : ℕ). given (tables_in u) w) v;
                  then = record {
                    ext = law_live.later;
                    frame = frame;
                    ready = query_ready Q.query.ready law_live.later law_live.ordered frame (rw marks.scratch C.scratch.length);
                    holds = subst (λ (w : ℕ). SpLaws.ValidAt (tables_in u).sets k.fields w) v law_live.set.den.at;
                  };
                };
              })
