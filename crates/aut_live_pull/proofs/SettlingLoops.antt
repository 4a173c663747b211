-- The loops of the work list: all predecessors of a state, and until no state is left. What is left to do, of a bound that the tables give, falls with each state that is taken.
use Rattle.std.specs.Prelude.{Result, Ok, Err}
use mathlib.Core.Path.{◌≡◌, refl, sym, ◌∙◌, ap, ap₂, subst, fun_ext}
use mathlib.Core.Bool.{Bool, true, false}
use mathlib.Core.List.{List, [], ◌∷◌, Memᴰ}
use Prim.Native.Nat.{ℕ, zero, suc, ◌+◌, ◌*◌, ◌-◌, ◌/◌, ◌^◌, ◌≤◌, ◌<◌}
use native.Mathlib.Omega.{arith}
use lib.Dec.{T, eqb, eqb_refl, ltb}
use lib.ListN.{length, get_or, set, length-set}
use lib.Seq.{get_or-set_same, get_or-set_other}
use borrow.Author.Tests.{eqb-true, eqb-false, ltb-true, ltb-false, lt-ltb}
use borrow.Rule.Slice.Mut.{set_vals}
use Rattle.std.specs.Result.{IsErr, IsErrAnd}
use Rattle.slices.proofs.Same.{slice_refl}
use Rattle.common.specs.Packets.{Set, packets, any}
use Rattle.common.proofs.PacketLaws.{any_of}
use Rattle.common.specs.Outcome.{Outcome, given, Step, after}
use Rattle.refusal.specs.declared.Refusal.{Refusal}
use Rattle.refusal.proofs.Passed.{passed}
use Rattle.netkat.proofs.Laws.Live.{amount}
use Rattle.netkat.proofs.Laws.Tally.{tally, total}
use Rattle.sp_steps.specs.Model as Sp
use Rattle.spp_steps.proofs.Laws.{by_test}
use Rattle.aut_steps.specs.Tables as Aut
use Rattle.aut_delta_steps.specs.Delta.{count_of, Store}
use Rattle.aut_delta_steps.specs.Wf.{WfStore}
use Rattle.aut_query_steps.specs.Tables.{Tables}
use Rattle.aut_query_steps.specs.Search.{capacity}
use Rattle.aut_query_steps.proofs.Steps.{Ends, comes}
use Rattle.aut_query_steps.specs.Live as M
use Rattle.aut_query_steps.specs.Live.{Work, work, takes}
use Rattle.aut_query_steps.specs.Explored.{Linked}
use Rattle.aut_query_steps.proofs.ExploreLaws.{any_mem}
use Rattle.aut_query_steps.proofs.SettleLaws.{reached, steps_to, Pulls, PullsFrom, all_ends, none_left, take_next, settle_more}
use Rattle.aut_query_stage.specs.Lent.{query_layer}
use Rattle.aut_query_stage.proofs.Lent.{query_laws}
use Rattle.aut_states.specs.Clauses.{limits_of}
use Rattle.aut_states.specs.declared.Config.{Config}
use Rattle.aut_states.specs.declared.Limits.{Limits}
use Rattle.aut_relations.specs.declared.Aut.{Aut as Lent}
use Rattle.aut_stage.specs.Rule.{Stage}
use Rattle.aut_stage.proofs.Rule.{begin, next, stuck, instead, done, all_of}
use Rattle.aut_sets.specs.Lent.{OnlySearch}
use Rattle.aut_query_calls.specs.Working.{clear_in}
use Rattle.aut_query_calls.proofs.Works.{beside_itself}
use Rattle.aut_relations.proofs.Kept.{keeps_refl, keeps_trans}
use Rattle.aut_live_words.specs.Work.{work_of, live_by, seconds, stack, Held}
use Rattle.aut_live_pull.specs.Clauses.{HeldIn, work_in, Source, Pulled, pulling, Target, pulling_all, SettleReady, settling, Settled, Settles}
use Rattle.aut_live_pull.proofs.Settling.{capacity_lent, stack_length, stack_below, odd_kept, clear_count}
use Rattle.aut_live_words.proofs.Words.{seconds_same, seconds_on, seconds_done}
use Rattle.aut_live_words.proofs.Held.{held_second}

-- ---- the states that are reached

module _ {N : ℕ} {l : Limits} {σ τ : Tables} {s s' p p' : List ℕ} {n m m' : ℕ} (H : Held N l σ s p n m) (K : Held N l τ s' p' n m') (f : (i : ℕ) → get_or p' (2 * i + 1) 0 ≡ get_or p (2 * i + 1) 0) where
  pub reached_on : (x : ℕ) → 0 < work_of σ.base.aut.states.words x → 0 < work_of τ.base.aut.states.words x
  reached_on x k = ltb-true 0 (work_of τ.base.aut.states.words x)
      (sym (K.marked x) ∙ ap (any (eqb x)) (seconds_same p p' 0 n (λ i a b. f i)) ∙ H.marked x ∙ lt-ltb 0 (work_of σ.base.aut.states.words x) k)

  pub reached_back : (x : ℕ) → 0 < work_of τ.base.aut.states.words x → 0 < work_of σ.base.aut.states.words x
  reached_back x k = ltb-true 0 (work_of σ.base.aut.states.words x)
      (sym (H.marked x) ∙ sym (ap (any (eqb x)) (seconds_same p p' 0 n (λ i a b. f i))) ∙ K.marked x ∙ lt-ltb 0 (work_of τ.base.aut.states.words x) k)

-- ---- all predecessors

-- those of the sources from i on, with m states in `todo`
abbrev rest_from : Config → Lent → (n t i : ℕ) → Work → Step Tables Work
rest_from k x n t i w = M.pull_all k.fields (limits_of k.limits) (length x.pending.now / 2) t (seconds x.pending.now i (n - i)) w

-- i states are looked at: the tables x, with m₀ states in `todo`, have become `now`, with m
pub record AllPulled (k : Config) (x : Lent) (n t m₀ : ℕ) (now : Lent) (m i : ℕ) : Type 0 where
  pub start : Target k x n m₀ t
  pub keeps : OnlySearch x now
  pub stage : Stage (query_layer k.fields k.limits) 0 0 (pulling_all k x t n m₀ (clear_in x)) (rest_from k x n t i (work_in k now m) (clear_in now)) (clear_in x) (clear_in now) x.scratch.now now.scratch.now
  pub held : HeldIn k now n m
  pub second : (j : ℕ) → get_or now.pending.now (2 * j + 1) 0 ≡ get_or x.pending.now (2 * j + 1) 0
  pub lists : (u : ℕ) → count_of now.states.words.now u ≡ count_of x.states.words.now u

module _ {k : Config} {x : Lent} {n t m₀ : ℕ} where
  pub all_begin : Target k x n m₀ t → AllPulled k x n t m₀ x m₀ 0
  all_begin R = record {
    start = R;
    keeps = keeps_refl x;
    stage = begin (query_laws k.fields k.limits) 0 0 R.held.working.ready (ap (λ (j : ℕ). M.pull_all k.fields (limits_of k.limits) (length x.pending.now / 2) t (seconds x.pending.now 0 j) (work_in k x m₀) (clear_in x)) {x = n} {y = n - 0} (omega arith));
    held = R.held;
    second = λ j. refl;
    lists = λ u. refl;
  }

  module _ {now : Lent} {m i : ℕ} (v : AllPulled k x n t m₀ now m i) where
    pub all_end : n ≤ i → Pulled k n (pulling_all k x t n m₀) x (Ok m) now
    unfolding M.pull_all
    all_end le = record {
      post = record {
        post = done (query_laws k.fields k.limits) 0 0 (instead (query_laws k.fields k.limits) 0 0 v.stage (ap (λ (ss : List ℕ). M.pull_all k.fields (limits_of k.limits) (length x.pending.now / 2) t ss (work_in k now m) (clear_in now)) (seconds_done x.pending.now i n i le))) tt;
      };
      held = v.held;
      second = v.second;
      lists = v.lists;
    }

    module _ (lt : i < n) where
      abbrev s : ℕ
      s = get_or now.pending.now (2 * i + 1) 0

      here : 0 < work_of now.states.words.now s
      here = held_second v.held i lt

      pub all_entry : 2 * i + 1 < length now.pending.now
      all_entry = omega (arith, lt, v.held.room, capacity_lent (length now.pending.now / 2))

      pub all_source : Source k now n m t s
      all_source = record {
        held = v.held;
        target = reached_on v.start.held v.held v.second t v.start.target;
        source = here;
        listed = omega (arith, v.lists s, v.start.listed s (reached_back v.start.held v.held v.second s here));
      }

      on_next : seconds x.pending.now i (n - i) ≡ s ∷ seconds x.pending.now (i + 1) (n - (i + 1))
      on_next = seconds_on x.pending.now n i lt ∙ ap (λ (z : ℕ). z ∷ seconds x.pending.now (i + 1) (n - (i + 1))) (sym (v.second i))

      turned : Stage (query_layer k.fields k.limits) 0 0 (pulling_all k x t n m₀ (clear_in x)) (after (pulling k now t s m (clear_in now)) (rest_from k x n t (i + 1))) (clear_in x) (clear_in now) x.scratch.now now.scratch.now
      unfolding M.pull_all
      turned = instead (query_laws k.fields k.limits) 0 0 v.stage
          (ap (λ (ss : List ℕ). M.pull_all k.fields (limits_of k.limits) (length x.pending.now / 2) t ss (work_in k now m) (clear_in now)) on_next
          ∙ ap (λ (j : ℕ). after (M.pull_from k.fields (limits_of k.limits) (j / 2) t s (work_in k now m) (clear_in now)) (rest_from k x n t (i + 1))) (sym v.keeps.pending.length))

      module _ {then : Lent} where
        pub all_stuck : {e : Refusal} {r : Result ℕ Refusal} → IsErr r × IsErrAnd r (λ a. a ≡ e) → Pulled k n (pulling k now t s m) now (Err e) then → Pulled k n (pulling_all k x t n m₀) x r then
        all_stuck q G = subst (λ (r : Result ℕ Refusal). Pulled k n (pulling_all k x t n m₀) x r then) (sym (passed q))
            (record { post = record { post = stuck (query_laws k.fields k.limits) 0 0 G.post.post (rest_from k x n t (i + 1)) turned }; held = tt; second = tt; lists = tt })

        pub all_again : {m2 : ℕ} → OnlySearch now then → Pulled k n (pulling k now t s m) now (Ok m2) then → AllPulled k x n t m₀ then m2 (i + 1)
        all_again K G = record {
          start = v.start;
          keeps = keeps_trans v.keeps K;
          stage = next (query_laws k.fields k.limits) 0 0 G.post.post (all_of 0 0) (rest_from k x n t (i + 1)) turned;
          held = G.held;
          second = λ j. G.second j ∙ v.second j;
          lists = λ u. G.lists u ∙ v.lists u;
        }

-- ---- until no state is left

-- how many states may still be taken: those on the list, and one for each packet that is in no set yet
unfoldable pub left_of : (N : ℕ) → (sp st ss : List ℕ) → ℕ → ℕ
left_of N sp st ss m = m + length ss * 2 ^ N - total (λ s. tally (Sp.mem sp N (live_by N st s)) (packets N)) ss

module _ {N : ℕ} {L : Aut.Limits} (b : Store) (W : WfStore N L b) (ss : List ℕ) (links : (x : ℕ) → Memᴰ x ss → Linked b ss x) {σ : Tables} (st : List ℕ) {todo : List ℕ} {m most : ℕ}
    (k : length todo ≡ m) (P : Pulls b W ss links most [] σ (work todo (live_by N st))) where
  amount_is : amount (reached b W ss links) P.live ≡ total (λ s. tally (Sp.mem σ.sets.words N (live_by N st s)) (packets N)) ss
  unfolding amount
  amount_is = ap (λ (f : ℕ → Set N). total (λ s. tally (f s) (packets N)) ss) (fun_ext (λ s. fun_ext (λ q. sym ((P.den s).means q))))

  pub pulls_left : Pulls b W ss links (left_of N σ.sets.words st ss m) [] σ (work todo (live_by N st))
  unfolding left_of
  pulls_left = record { base = P.base; ordered = P.ordered; live = P.live; den = P.den; among = P.among; pulling = P.pulling; enough = omega (arith, amount_is, k) }

  pub left_most : left_of N σ.sets.words st ss m ≤ most
  unfolding left_of
  left_most = omega (arith, P.enough, amount_is, k)

came : {N : ℕ} {L : Aut.Limits} {lent : ℕ} {A : Type 0} {Q : Tables → A → Type 0} {σ τ : Tables} {a : A} → Ends N L lent Q σ (given τ a) → Q τ a
came (comes v) = v

settle_none : (N : ℕ) (L : Aut.Limits) (lent most : ℕ) (ss : List ℕ) (live : ℕ → ℕ) (σ : Tables) → M.settle N L lent most ss (work [] live) σ ≡ given σ live
unfolding M.settle
settle_none N L lent zero ss live σ = refl
settle_none N L lent (suc most) ss live σ = refl

is_true : (b : Bool) → T b → b ≡ true
is_true true t = refl
is_true false t = absurd t

-- the entry on top is taken
pub stack_top : (p : List ℕ) (m : ℕ) → 0 < m → stack p m ≡ get_or p (2 * (m - 1)) 0 ∷ stack (set p (2 * (m - 1)) 0) (m - 1)
unfolding stack
stack_top p m k =
    ap (stack p) {x = m} {y = suc (m - 1)} (omega arith)
    ∙ ap (λ (ts : List ℕ). get_or p (2 * (m - 1)) 0 ∷ ts) (sym (stack_below p (m - 1) (m - 1) 0 (omega arith)))

pub held_top : {N : ℕ} {l : Limits} {σ : Tables} {s p : List ℕ} {n m : ℕ} → Held N l σ s p n m → 0 < m → 2 * (m - 1) < length p
held_top {p = p} H k = omega (arith, H.high, capacity_lent (length p / 2))

held_pop : {N : ℕ} {l : Limits} {σ : Tables} {s p : List ℕ} {n m : ℕ} → Held N l σ s p n m → 0 < m → Held N l σ s (set p (2 * (m - 1)) 0) n (m - 1)
held_pop {N} {l} {σ} {s} {p} {n} {m} H k = record {
  working = H.working;
  marked = λ x. ap (any (eqb x)) (seconds_same p (set p (2 * (m - 1)) 0) 0 n (λ i a b. odd_kept p (m - 1) 0 i)) ∙ H.marked x;
  sets = H.sets;
  rest = H.rest;
  todo = λ i j. by_test (eqb i (m - 1))
      (λ b. ap (λ (i : ℕ). get_or (set p (2 * (m - 1)) 0) (2 * i) 0) (eqb-true i (m - 1) b) ∙ get_or-set_same p (2 * (m - 1)) 0 0 (held_top H k))
      (λ b. let z : i ≡ m - 1 → ⊥ = eqb-false i (m - 1) b in get_or-set_other p (2 * (m - 1)) (2 * i) 0 0 (λ q. z (omega arith)) ∙ H.todo i (above i j z));
  after = λ i j. odd_kept p (m - 1) 0 i ∙ H.after i j;
  room = subst (λ (k : ℕ). n ≤ capacity (k / 2)) (sym (length-set p (2 * (m - 1)) 0)) H.room;
  high = subst (λ (k : ℕ). m - 1 ≤ capacity (k / 2)) (sym (length-set p (2 * (m - 1)) 0)) (omega (arith, H.high));
}
  where
    above : (i : ℕ) → m - 1 ≤ i → (i ≡ m - 1 → ⊥) → m ≤ i
    above i j z = by_test (ltb i m) (λ b. absurd (z (omega (arith, ltb-true i m b)))) (λ b. ltb-false i m b)

-- the entry on top is zero now
abbrev pub popped : Lent → ℕ → Lent
popped x m = record { sp = x.sp; spp = x.spp; states = x.states; members = x.members; transitions = x.transitions; pending = set_vals (set x.pending.now (2 * (m - 1)) 0) x.pending; scratch = x.scratch }

popped_keeps : (x : Lent) (m : ℕ) → OnlySearch x (popped x m)
popped_keeps x m = record { sp = slice_refl x.sp.nodes; spp = refl; states = slice_refl x.states.words; count = refl; members = refl; transitions = refl; pending = record { lent = refl; length = length-set x.pending.now (2 * (m - 1)) 0 }; scratch = slice_refl x.scratch }

pub settle_keeps : {x now then : Lent} (m : ℕ) → OnlySearch x now → OnlySearch (popped now m) then → OnlySearch x then
settle_keeps {now = now} m K L = keeps_trans K (keeps_trans (popped_keeps now m) L)

-- what is left while m states are on the list
abbrev left_in : Config → (x : Lent) (n : ℕ) → (now : Lent) (m : ℕ) → ℕ
left_in k x n now m = left_of k.fields now.sp.nodes.now now.states.words.now (seconds x.pending.now 0 n) m

-- at most so many states are taken
abbrev settle_by : Config → Lent → (n most : ℕ) → Work → Step Tables (ℕ → ℕ)
settle_by k x n most w = M.settle k.fields (limits_of k.limits) (length x.pending.now / 2) most (seconds x.pending.now 0 n) w

-- between two states taken: the tables x, with n states reached, have become `now`, with m states on the list
pub record Between (k : Config) (x : Lent) (n : ℕ) (now : Lent) (m : ℕ) : Type 0 where
  pub start : SettleReady k x n
  pub keeps : OnlySearch x now
  pub stage : Stage (query_layer k.fields k.limits) 0 0 (settling k x n (clear_in x)) (settle_by k x n (left_in k x n now m) (work_in k now m) (clear_in now)) (clear_in x) (clear_in now) x.scratch.now now.scratch.now
  pub pulls : Pulls (clear_in x).base start.held.working.ready.ordered.worked (seconds x.pending.now 0 n) start.links (left_in k x n now m) [] (clear_in now) (work_in k now m)
  pub held : HeldIn k now n m
  pub second : (j : ℕ) → get_or now.pending.now (2 * j + 1) 0 ≡ get_or x.pending.now (2 * j + 1) 0
  pub lists : (u : ℕ) → count_of now.states.words.now u ≡ count_of x.states.words.now u

module _ {k : Config} {x : Lent} {n : ℕ} where
  pub settle_begin : SettleReady k x n → Between k x n x n
  settle_begin S =
      let Q = pulls_left (clear_in x).base S.held.working.ready.ordered.worked (seconds x.pending.now 0 n) S.links x.states.words.now (stack_length x.pending.now n) S.pulls in
      record {
        start = S;
        keeps = keeps_refl x;
        stage = begin (query_laws k.fields k.limits) 0 0 S.held.working.ready
            (settle_more (clear_in x).base S.held.working.ready.ordered.worked (seconds x.pending.now 0 n) S.links (length x.pending.now / 2) (takes k.fields (limits_of k.limits) (length x.pending.now / 2) (seconds x.pending.now 0 n)) (left_in k x n x n) (clear_in x) (work_in k x n) S.pulls Q);
        pulls = Q;
        held = S.held;
        second = λ j. refl;
        lists = λ u. refl;
      }

  module _ {now : Lent} {m : ℕ} (v : Between k x n now m) where
    abbrev b : Store
    b = (clear_in x).base

    abbrev W : WfStore k.fields (limits_of k.limits) b
    W = v.start.held.working.ready.ordered.worked

    abbrev ss : List ℕ
    ss = seconds x.pending.now 0 n

    abbrev lent : ℕ
    lent = length x.pending.now / 2

    abbrev κ : Tables
    κ = clear_in now

    abbrev left : ℕ
    left = left_in k x n now m

    pub settle_high : 2 * m ≤ length now.pending.now
    settle_high = omega (arith, v.held.high, capacity_lent (length now.pending.now / 2))

    pub settle_end : m ≤ 0 → Settled k n x (Ok tt) now
    unfolding stack
    settle_end le = record {
      post = record {
        post = done (query_laws k.fields k.limits) 0 0 (instead (query_laws k.fields k.limits) 0 0 v.stage
            (ap (λ (ts : List ℕ). settle_by k x n left (work ts (live_by k.fields now.states.words.now)) κ) (ap (stack now.pending.now) {x = m} {y = 0} (omega arith)) ∙ settle_none k.fields (limits_of k.limits) lent left ss (live_by k.fields now.states.words.now) κ)) tt;
      };
      held = subst (λ (j : ℕ). HeldIn k now n j) {x = m} {y = 0} (omega arith) v.held;
      second = v.second;
    }

    module _ (some : 0 < m) where
      pub settle_entry : 2 * (m - 1) < length now.pending.now
      settle_entry = held_top v.held some

      abbrev top : ℕ
      top = get_or now.pending.now (2 * (m - 1)) 0

      abbrev cut : Lent
      cut = popped now m

      len_2 : length cut.pending.now ≡ length x.pending.now
      len_2 = length-set now.pending.now (2 * (m - 1)) 0 ∙ v.keeps.pending.length

      second_2 : (j : ℕ) → get_or cut.pending.now (2 * j + 1) 0 ≡ get_or x.pending.now (2 * j + 1) 0
      second_2 j = odd_kept now.pending.now (m - 1) 0 j ∙ v.second j

      top_in : Memᴰ top ss
      top_in = v.pulls.among top (subst (λ (ts : List ℕ). Memᴰ top ts) (sym (stack_top now.pending.now m some)) (Memᴰ.head refl))

      marked_1 : (u : ℕ) → any (eqb u) ss ≡ ltb 0 (work_of now.states.words.now u)
      marked_1 u = sym (ap (any (eqb u)) (seconds_same x.pending.now now.pending.now 0 n (λ i a b. v.second i))) ∙ v.held.marked u

      pub settle_target : Target k cut n (m - 1) top
      settle_target = record {
        held = held_pop v.held some;
        target = ltb-true 0 (work_of now.states.words.now top) (sym (marked_1 top) ∙ is_true (any (eqb top) ss) (any_of (eqb top) top_in (eqb_refl top)));
        listed = λ u z. omega (arith, v.lists u, clear_count v.start.held u, (v.start.links u (any_mem u ss (marked_1 u ∙ lt-ltb 0 (work_of now.states.words.now u) z))).marked);
      }

      -- the bound is not used up
      more_left : 0 < left
      more_left = by_test (eqb left 0)
          (λ e. absurd (omega (
            arith,
            stack_length now.pending.now m,
            ap length (none_left b W ss v.start.links lent (subst (λ (j : ℕ). Pulls b W ss v.start.links j [] κ (work_in k now m)) (eqb-true left 0 e) v.pulls)),
          )))
          (λ e. positive left (eqb-false left 0 e))
        where
          positive : (j : ℕ) → (j ≡ 0 → ⊥) → 0 < j
          positive zero z = absurd (z refl)
          positive (suc j) z = omega arith

      left_suc : left ≡ suc (left - 1)
      left_suc = omega (arith, more_left)

      pulls_1 : Pulls b W ss v.start.links (left - 1) (steps_to b W ss v.start.links top ss) κ (work_in k cut (m - 1))
      pulls_1 = take_next b W ss v.start.links lent (subst (λ (j : ℕ). Pulls b W ss v.start.links j [] κ (work_in k now m)) left_suc v.pulls) (stack_top now.pending.now m some)

      abbrev step : Step Tables Work
      step = pulling_all k cut top n (m - 1)

      step_is : M.pull_all k.fields (limits_of k.limits) lent top ss (work_in k cut (m - 1)) κ ≡ step κ
      step_is = ap₂ (λ (j : ℕ) (zs : List ℕ). M.pull_all k.fields (limits_of k.limits) (j / 2) top zs (work_in k cut (m - 1)) κ) (sym len_2) (sym (seconds_same x.pending.now cut.pending.now 0 n (λ i a b. second_2 i)))

      taken : Stage (query_layer k.fields k.limits) 0 0 (settling k x n (clear_in x)) (after (step κ) (settle_by k x n (left - 1))) (clear_in x) κ x.scratch.now now.scratch.now
      unfolding M.settle
      taken = instead (query_laws k.fields k.limits) 0 0 v.stage
          (ap₂ (λ (j : ℕ) (ts : List ℕ). settle_by k x n j (work ts (live_by k.fields now.states.words.now)) κ) left_suc (stack_top now.pending.now m some)
          ∙ ap (λ (o : Outcome Tables Work). after o (settle_by k x n (left - 1))) step_is)

      module _ {then : Lent} where
        pub settle_stuck : {e : Refusal} {r : Result (Unit {0}) Refusal} → IsErr r × IsErrAnd r (λ a. a ≡ e) → Pulled k n step cut (Err e) then → Settled k n x r then
        settle_stuck q G = subst (λ (r : Result (Unit {0}) Refusal). Settled k n x r then) (sym (passed q))
            (record { post = record { post = stuck (query_laws k.fields k.limits) 0 0 G.post.post (settle_by k x n (left - 1)) taken }; held = tt; second = tt })

        module _ {m2 : ℕ} (G : Pulled k n step cut (Ok m2) then) where
          pulls_2 : Pulls b W ss v.start.links (left - 1) [] (clear_in then) (work_in k then m2)
          pulls_2 = (came (subst (Ends k.fields (limits_of k.limits) lent (PullsFrom b W ss v.start.links (left - 1) [] κ) κ) (step_is ∙ G.post.post.is)
              (all_ends b W ss v.start.links lent (left - 1) top ss κ (work_in k cut (m - 1)) (λ u z. z) pulls_1))).1

          pub settle_again : OnlySearch cut then → Between k x n then m2
          settle_again K =
              let Q = pulls_left b W ss v.start.links then.states.words.now (stack_length then.pending.now m2) pulls_2 in
              record {
                start = v.start;
                keeps = keeps_trans v.keeps (keeps_trans (popped_keeps now m) K);
                stage = instead (query_laws k.fields k.limits) 0 0 (next (query_laws k.fields k.limits) 0 0 G.post.post (all_of 0 0) (settle_by k x n (left - 1)) taken)
                    (settle_more b W ss v.start.links lent (left - 1) (left_in k x n then m2) (clear_in then) (work_in k then m2) pulls_2 Q);
                pulls = Q;
                held = G.held;
                second = λ j. G.second j ∙ second_2 j;
                lists = λ u. G.lists u ∙ v.lists u;
              }

          pub settle_less : left_in k x n then m2 < left
          settle_less = omega (arith, more_left, left_most b W ss v.start.links then.states.words.now (stack_length then.pending.now m2) pulls_2)

-- .. with the members that are lent
pub settled_itself : {k : Config} {x : Lent} {n : ℕ} {r : Result (Unit {0}) Refusal} {y : Lent} → OnlySearch x y → SettleReady k x n → Settles k n x r y → Settled k n x r y
settled_itself {k} {x} {n} {r} {y} K S G = subst (λ (z : Lent). Settled k n x r z) (beside_itself x y K.members) (G.gives x.members S)
