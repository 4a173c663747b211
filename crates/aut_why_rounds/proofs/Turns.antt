-- The set of a state: bwd of its epsilon, joined with each transition, by the rule for a run of calls (aut_stage).
use Rattle.std.specs.Prelude.{Result, Ok, Err, if◌then◌else◌}
use mathlib.Core.Path.{◌≡◌, refl, sym, ◌∙◌, ap, ap₂, subst}
use mathlib.Core.Logic.{⊎_elim}
use mathlib.Core.List.Memᴰ
use mathlib.Core.List.{List, ◌∷◌, Memᴰ}
use Prim.Native.Nat.{ℕ, ◌+◌, ◌*◌, ◌-◌, ◌≤◌, ◌<◌}
use native.Mathlib.Omega.{arith}
use lib.Dec.{eqb}
use lib.ListN.{length, get_or}
use Rattle.common.specs.Outcome.{Outcome, refused, given, Step, after}
use Rattle.refusal.specs.declared.Refusal.{Refusal}
use Rattle.netkat.specs.Lists.{State, Transition}
use Rattle.netkat_steps.specs.ListSteps.{Edge, Are}
use Rattle.sp_steps.specs.Model as Sp
use Rattle.sp_steps.specs.Reuse.{SpNoted}
use Rattle.sp_steps.specs.Wf as SpLaws
use Rattle.sp_steps.proofs.Laws as SpLawsProofs
use Rattle.sp.specs.declared.SP.{SP}
use Rattle.spp_steps.specs.Wf.{ValidAt}
use Rattle.spp_steps.specs.ImageModel as Images
use Rattle.spp_image.specs.Reuse.{Written}
use Rattle.aut_steps.specs.Tables as Aut
use Rattle.aut_steps.specs.Tables.{SPP, kind_of, op1}
use Rattle.aut_st_steps.specs.Edges.{edges}
use Rattle.aut_st_steps.proofs.Places.{edge_at, edges_on, edges_done}
use Rattle.aut_delta_steps.specs.Epsilon.{epsilon_of, value_of}
use Rattle.aut_delta_steps.specs.EpsilonDown.{Known}
use Rattle.aut_delta_steps.proofs.EpsilonDown.{known_means}
use Rattle.aut_delta_steps.specs.Delta.{count_of, list_at, Store}
use Rattle.aut_delta_steps.specs.Fits.{tables as readings}
use Rattle.aut_steps.specs.Wf.{states}
use Rattle.aut_query_steps.specs.Tables.{Tables, diagrams, on_sets, making_sets}
use Rattle.aut_query_steps.proofs.Tables.{both_wf}
use Rattle.aut_why_steps.specs.Why.{Sets, ends, joins, turn}
use Rattle.cache.proofs.Cache.{sound_map}
use Rattle.aut_query_stage.specs.Layer.{QueryReady}
use Rattle.aut_query_stage.specs.Lent.{tables_in, query_layer}
use Rattle.aut_query_stage.proofs.Lent.{query_laws}
use Rattle.aut_states.specs.declared.Config.{Config}
use Rattle.aut_states.specs.declared.Limits.{Limits}
use Rattle.aut_stage.specs.Rule.{Stage, Post}
use Rattle.aut_stage.proofs.Rule.{begin, next, instead, stuck, done, finish, all_of}
use Rattle.aut_relations.specs.declared.Aut.{Aut as Lent}
use Rattle.aut_sets.specs.Lent.{sets_in, diagrams_in, OnlySets}
use Rattle.aut_sets.specs.Clauses.{Gives, PreSets, PreImage, PreLead}
use Rattle.aut_free.specs.Clear.{clear, clear_tables, in_store}
use Rattle.aut_free.proofs.Clearing.{clear_length, clear_kept}
use Rattle.aut_query_calls.specs.Working.{clear_in, Working}
use Rattle.aut_query_calls.specs.Working.{SetIn}
use Rattle.aut_query_calls.proofs.Listed.{edge_in}
use Rattle.aut_query_calls.proofs.Ran.{Ran}
use Rattle.aut_query_calls.proofs.Calls.{asks_lead, asks_sets, bwd_ran, pull_ran, union_ran}
use Rattle.aut_live_words.specs.Work.{seconds}
use Rattle.aut_live_words.proofs.Words.{listed_inside, listed_edges}
use Rattle.aut_why_words.proofs.Walks.{walk_known, walk_there, walk_made}
use Rattle.aut_st_source.specs.declared.Span.{Span}
use Rattle.aut_st_source.specs.Stored.{PreFind, PostFind}
use Rattle.aut_why_words.proofs.Lent.{sets_base}
use Rattle.aut_why_words.proofs.Found.{find_listed, walk_list, walk_listed}
use Rattle.aut_why_rounds.specs.Clauses.{GivesSet, Visited, join_one, Joining, Turning, TurningIn}

-- ---- without hops

-- of the tables with words 8 to 11 zero
pub value_clear : (st : List ℕ) (x : ℕ) → value_of (clear st) x ≡ value_of st x
unfolding value_of kind_of op1 epsilon_of
value_clear st x =
    ap₂ (λ (k e : ℕ). if eqb k SPP then get_or (clear st) (12 * x + 1) 0 else e - 1) (kind_clear st x) (clear_kept st x 4 (omega arith))
    ∙ ap (λ (a : ℕ). if eqb (get_or st (12 * x) 0) SPP then a else get_or st (12 * x + 4) 0 - 1) (clear_kept st x 1 (omega arith))
  where
    kind_clear : (st : List ℕ) (x : ℕ) → get_or (clear st) (12 * x) 0 ≡ get_or st (12 * x) 0
    kind_clear st x = subst (λ (j : ℕ). get_or (clear st) j 0 ≡ get_or st j 0) {x = 12 * x + 0} {y = 12 * x} (omega arith) (clear_kept st x 0 (omega arith))

module _ {N : ℕ} {l : Limits} {σ : Tables} {s : List ℕ} {x : ℕ} (K : Visited N l σ s x) where
  abbrev st : List ℕ
  st = σ.base.aut.states.words

  pub ends_there : 12 * x + 11 < length st
  ends_there = omega (arith, K.linked.known, subst (λ (k : ℕ). 12 * states σ.base.aut ≤ k) (clear_length st) K.working.ready.ready.good.fits)

  known_clear : Known (clear st) x
  known_clear n = ⊎_elim (λ q. absurd (n q)) (λ k. k) K.linked.has_epsilon

  pub ends_known : Known st x
  unfolding kind_of epsilon_of
  ends_known n = omega (arith, known_clear (λ q. n (sym kind ∙ q)), clear_kept st x 4 (omega arith))
    where
      kind : get_or (clear st) (12 * x) 0 ≡ get_or st (12 * x) 0
      kind = subst (λ (j : ℕ). get_or (clear st) j 0 ≡ get_or st j 0) {x = 12 * x + 0} {y = 12 * x} (omega arith) (clear_kept st x 0 (omega arith))

  module _ {e : ℕ} (q : value_of st x ≡ e) where
    pub value_at : ValidAt σ.base.aut.nodes N e
    value_at =
        let W = K.working.ready.ordered.worked in
        subst (ValidAt σ.base.aut.nodes N) (value_clear st x ∙ q) (known_means (record { good = W.good; epsilons = W.epsilons }) K.linked.known known_clear).den.at

    pub ends_asks : PreImage N (diagrams σ) s e
    ends_asks = record { few = K.working.ready.ready.few; wf = both_wf K.working.ready.ordered; room = K.working.ready.ready.room; sound = sound_map (λ op x y r v. v.images) K.working.ready.sound; at_r = value_at }

    ends_is : ends N x (clear_tables σ) ≡ making_sets (Images.bwd N e) (clear_tables σ)
    unfolding ends
    ends_is = ap (λ (v : ℕ). making_sets (Images.bwd N v) (clear_tables σ)) (value_clear st x ∙ q)

pub ends_done : {k : Config} {x y : Lent} {i e : ℕ} {r : Result SP Refusal} → Visited k.fields k.limits (tables_in x) x.scratch.now i → value_of x.states.words.now i ≡ e → OnlySets x y
    → Gives (Written k.fields) (λ (h : SP). h.0) (Images.bwd k.fields e) (diagrams_in x) r (diagrams_in y) x.scratch.now y.scratch.now → GivesSet k (ends k.fields i) x r y
ends_done {k} {x} {e = e} K q A G = let P = (bwd_ran K.working e (value_at K q) A G).post in record { post = record { is = ends_is K q ∙ P.is; then = P.then } }

-- ---- one transition

module _ (k : Config) (x : Lent) {y label u : ℕ} (J : Joining k.fields k.limits (tables_in x) x.scratch.now y label u) where
  abbrev N : ℕ
  N = k.fields

  abbrev ahead : ℕ
  ahead = get_or x.states.words.now (12 * y + 8) 0 - 1

  pub pull_asks : PreLead N (diagrams_in x) x.scratch.now ahead label
  pull_asks = asks_lead x J.working ahead J.ahead label J.at_label

  stage_0 : Stage (query_layer N k.limits) 0 0 (join_one N label ahead u (clear_in x)) (after (making_sets (Images.pull N N label ahead) (clear_in x)) (λ p. on_sets (Sp.union N u p))) (clear_in x) (clear_in x) x.scratch.now x.scratch.now
  stage_0 = begin (query_laws N k.limits) 0 0 J.working.ready refl

  abbrev Pulls : Result SP Refusal → Lent → Type 0
  Pulls r z = Gives (Written N) (λ (h : SP). h.0) (Images.pull N N label ahead) (diagrams_in x) r (diagrams_in z) x.scratch.now z.scratch.now

  pub pull_stuck : {e : Refusal} {z : Lent} → OnlySets x z → Pulls (Err e) z → GivesSet k (join_one N label ahead u) x (Err e) z
  pull_stuck A G = record { post = stuck (query_laws N k.limits) 0 0 (pull_ran J.working ahead J.ahead label J.at_label A G).post (λ p. on_sets (Sp.union N u p)) stage_0 }

  module _ {h : SP} {z : Lent} (A : OnlySets x z) (G : Pulls (Ok h) z) where
    ran_1 : Ran k 0 0 (SetIn N) (λ (h : SP). h.0) (making_sets (Images.pull N N label ahead)) x (Ok h) z
    ran_1 = pull_ran J.working ahead J.ahead label J.at_label A G

    stage_1 : Stage (query_layer N k.limits) 0 0 (join_one N label ahead u (clear_in x)) (on_sets (Sp.union N u h.0) (clear_in z)) (clear_in x) (clear_in z) x.scratch.now z.scratch.now
    stage_1 = next (query_laws N k.limits) 0 0 ran_1.post (all_of 0 0) (λ p. on_sets (Sp.union N u p)) stage_0

    at_1 : SpLaws.ValidAt (sets_in z) N u
    at_1 = SpLawsProofs.at_ext ran_1.post.then.ext.sets N u J.at

    pub union_asks : PreSets N (sets_in z) z.scratch.now u h.0
    union_asks = asks_sets z ran_1.working u at_1 h.0 ran_1.post.then.holds

    pub join_done : {r : Result SP Refusal} {w : Lent} → OnlySets z w → Gives SpNoted (λ (h : SP). h.0) (Sp.union N u h.0) (sets_in z) r (sets_in w) z.scratch.now w.scratch.now → GivesSet k (join_one N label ahead u) x r w
    join_done {r} B H = record { post = finish (query_laws N k.limits) 0 0 stage_1 r (union_ran ran_1.working u at_1 h.0 ran_1.post.then.holds B H).post (all_of 0 0) }

-- ---- all transitions of a state

edge_at_lem : {N : ℕ} {L : Aut.Limits} {a : Aut.Aut} {es : List Edge} {list : List (Transition State N)} {e : Edge} → Are (readings N L) a es list → Memᴰ e es → ValidAt a.nodes N e.label
edge_at_lem Are.none m = absurd (Memᴰ.not-nil m)
edge_at_lem {N} {a = a} (Are.also {l = l} k d as') m = ⊎_elim (λ q. subst (ValidAt a.nodes N) (sym (ap (λ (e : Edge). e.label) q)) d.at) (λ n. edge_at_lem as' n) (Memᴰ.cases_cons m)

after_after : {S A B C : Type 0} (o : Outcome S A) (f : A → Step S B) (g : B → Step S C) → after o (λ a σ. after (f a σ) g) ≡ after (after o f) g
after_after (refused e) f g = refl
after_after (given σ a) f g = refl

-- packet sets have been made
module _ (k : Config) {x z : Lent} (A : OnlySets x z) where
  pub sets_working : Working k.fields k.limits (tables_in x) x.scratch.now → QueryReady k.fields k.limits (clear_in z) z.scratch.now → Working k.fields k.limits (tables_in z) z.scratch.now
  sets_working W R = record { ready = R; fresh = subst (λ (b : Store). (j : ℕ) → 12 * states b.aut ≤ j → get_or b.aut.states.words j 0 ≡ 0) (sym (sets_base A)) W.fresh }

  module _ {p : List ℕ} {n : ℕ} {before : Sets} {i : ℕ} (T : TurningIn k x p n before i) where
    pub turn_made : QueryReady k.fields k.limits (clear_in z) z.scratch.now → SpLaws.Ext (sets_in x) (sets_in z) → TurningIn k z p n before i
    turn_made R e = record {
      walk = walk_made T.walk (sets_base A) (sets_working T.walk.working R);
      sets = record { is = λ y m. ap (λ (b : Store). get_or b.aut.states.words (12 * y + 8) 0) (sets_base A) ∙ T.sets.is y m };
      valid = λ y m. SpLawsProofs.at_ext e k.fields (before y) (T.valid y m);
      among = T.among;
    }

module _ {N : ℕ} {l : Limits} {σ : Tables} {s p : List ℕ} {n : ℕ} {before : Sets} {x : ℕ} (T : Turning N l σ s p n before x) where
  abbrev sw : List ℕ
  sw = σ.base.aut.states.words

  -- the stored list of x
  pub turn_list : {list : Span} → PostFind sw x list → list_at (clear_tables σ).base x ≡ edges σ.base.transitions.words list.start list.count
  turn_list F = walk_list T.walk T.among ∙ listed_edges (walk_listed T.walk T.among) F

  pub turn_visited : Visited N l σ s x
  turn_visited = record { working = T.walk.working; all = seconds p 0 n; linked = T.walk.links x T.among }

  pub turn_find : PreFind sw x
  turn_find = find_listed (walk_listed T.walk T.among)

  pub turn_inside : {list : Span} → PostFind sw x list → 2 * (list.start + list.count) ≤ length σ.base.transitions.words
  turn_inside F = listed_inside (walk_listed T.walk T.among) F

module _ (k : Config) (x : Lent) {p : List ℕ} {n : ℕ} {before : Sets} {s : ℕ} (T : TurningIn k x p n before s) where
  abbrev M : ℕ
  M = k.fields

  abbrev tr : List ℕ
  tr = x.transitions.words.now

  abbrev κ : Tables
  κ = clear_in x

  module _ (u : ℕ) (U : SpLaws.ValidAt (sets_in x) M u) (list : Span) where
    abbrev all : Step Tables ℕ
    all = joins M (list_at κ.base s) before u

    -- i transitions are joined
    pub record Joined (z : Lent) (v i : ℕ) : Type 0 where
      pub stage : Stage (query_layer M k.limits) 0 0 (all κ) (joins M (edges tr (list.start + i) (list.count - i)) before v (clear_in z)) κ (clear_in z) x.scratch.now z.scratch.now
      pub turning : TurningIn k z p n before s
      pub at : SpLaws.ValidAt (sets_in z) M v

    pub join_begin : PostFind x.states.words.now s list → Joined x u 0
    join_begin F = record {
      stage = begin (query_laws M k.limits) 0 0 T.walk.working.ready
          (ap (λ (es : List Edge). joins M es before u κ) (turn_list T F ∙ ap₂ (λ (a k : ℕ). edges tr a k) {x = list.start} {y = list.start + 0} {u = list.count} {v = list.count - 0} (omega arith) (omega arith)));
      turning = T;
      at = U;
    }

    module _ (F : PostFind x.states.words.now s list) {z : Lent} {v i : ℕ} (A : OnlySets x z) (g : Joined z v i) where
      module _ (lt : i < list.count) where
        abbrev tz : List ℕ
        tz = z.transitions.words.now

        same : tz ≡ tr
        same = rw A.transitions refl

        abbrev y : ℕ
        y = get_or tz (2 * (list.start + i)) 0

        abbrev label : ℕ
        label = get_or tz (2 * (list.start + i) + 1) 0

        abbrev set : ℕ
        set = get_or z.states.words.now (12 * y + 8) 0 - 1

        listed : Memᴰ (edge_at tz (list.start + i)) (list_at κ.base s)
        listed = subst (λ (t : List ℕ). Memᴰ (edge_at t (list.start + i)) (list_at κ.base s)) (sym same) (subst (λ (es : List Edge). Memᴰ (edge_at tr (list.start + i)) es) (sym (turn_list T F)) (edge_in tr list.start list.count i lt))

        target_in : Memᴰ y (seconds p 0 n)
        target_in = (T.walk.links s T.among).leads (edge_at tz (list.start + i)) listed

        ahead_is : before y ≡ set
        ahead_is = omega (arith, g.turning.sets.is y target_in)

        pub join_asks : Joining M k.limits (tables_in z) z.scratch.now y label v
        unfolding count_of
        join_asks = record {
          working = g.turning.walk.working;
          there = walk_there g.turning.walk y target_in;
          some = omega (arith, g.turning.sets.is y target_in);
          ahead = subst (SpLaws.ValidAt (sets_in z) M) ahead_is (g.turning.valid y target_in);
          at_label = subst (λ (b : Store). ValidAt b.aut.nodes M label) (sym (sets_base A))
              (edge_at_lem ((T.walk.working.ready.ordered.worked.lists.held s (walk_known T.walk s T.among)).list (T.walk.links s T.among).marked).are listed);
          at = g.at;
        }

        abbrev rest : ℕ → Step Tables ℕ
        rest = joins M (edges tr (list.start + (i + 1)) (list.count - (i + 1))) before

        turned : Stage (query_layer M k.limits) 0 0 (all κ) (after (join_one M label set v (clear_in z)) rest) κ (clear_in z) x.scratch.now z.scratch.now
        unfolding joins
        turned = instead (query_laws M k.limits) 0 0 g.stage
            (ap (λ (es : List Edge). joins M es before v (clear_in z)) (edges_on tr list.start list.count i lt)
            ∙ ap (λ (t : List ℕ). joins M (edge_at t (list.start + i) ∷ edges tr (list.start + (i + 1)) (list.count - (i + 1))) before v (clear_in z)) (sym same)
            ∙ after_after (making_sets (Images.pull M M label (before y)) (clear_in z)) (λ q. on_sets (Sp.union M v q)) rest
            ∙ ap (λ (a : ℕ). after (join_one M label a v (clear_in z)) rest) ahead_is)

        pub join_stuck : {e : Refusal} {w : Lent} → GivesSet k (join_one M label set v) z (Err e) w → GivesSet k all x (Err e) w
        join_stuck G = record { post = stuck (query_laws M k.limits) 0 0 G.post rest turned }

        pub join_again : {h : SP} {w : Lent} → OnlySets z w → GivesSet k (join_one M label set v) z (Ok h) w → Joined w h.0 (i + 1)
        join_again B G =
            let c = next (query_laws M k.limits) 0 0 G.post (all_of 0 0) rest turned in
            record { stage = c; turning = turn_made k B g.turning G.post.then.ready G.post.then.ext.sets; at = G.post.then.holds }

      pub join_end : {h : SP} → list.count ≤ i → h.0 ≡ v → GivesSet k all x (Ok h) z
      unfolding joins
      join_end le q = record {
        post = done (query_laws M k.limits) 0 0
            (instead (query_laws M k.limits) 0 0 g.stage (ap (λ (es : List Edge). joins M es before v (clear_in z)) (edges_done tr (list.start + i) list.count i le) ∙ ap (given (clear_in z)) (sym q)))
            (subst (SpLaws.ValidAt (sets_in z) M) (sym q) g.at);
      }

  -- ---- the turn

  turn_is : turn M before s κ ≡ after (ends M s κ) (joins M (list_at κ.base s) before)
  unfolding turn
  turn_is = refl

  at_first : Stage (query_layer M k.limits) 0 0 (turn M before s κ) (after (ends M s κ) (joins M (list_at κ.base s) before)) κ κ x.scratch.now x.scratch.now
  at_first = begin (query_laws M k.limits) 0 0 T.walk.working.ready turn_is

  pub turn_stuck : {e : Refusal} {z : Lent} → GivesSet k (ends M s) x (Err e) z → GivesSet k (turn M before s) x (Err e) z
  turn_stuck G = record { post = stuck (query_laws M k.limits) 0 0 G.post (joins M (list_at κ.base s) before) at_first }

  module _ {h : SP} {z : Lent} (A : OnlySets x z) (G : GivesSet k (ends M s) x (Ok h) z) where
    pub turn_after : TurningIn k z p n before s
    turn_after = turn_made k A T G.post.then.ready G.post.then.ext.sets

    pub turn_at : SpLaws.ValidAt (sets_in z) M h.0
    turn_at = G.post.then.holds

    pub turn_done : {r : Result SP Refusal} {w : Lent} → GivesSet k (joins M (list_at (clear_in z).base s) before h.0) z r w → GivesSet k (turn M before s) x r w
    turn_done {r} {w} H = record {
      post = finish (query_laws M k.limits) 0 0 (next (query_laws M k.limits) 0 0 G.post (all_of 0 0) (joins M (list_at κ.base s) before) at_first) r
          (subst (λ (b : Store). Post (query_layer M k.limits) 0 0 (SetIn M) (λ (h : SP). h.0) (joins M (list_at (in_store clear b) s) before h.0 (clear_in z)) (clear_in z) r (clear_in w) z.scratch.now w.scratch.now) (sets_base A) H.post) (all_of 0 0);
    }
