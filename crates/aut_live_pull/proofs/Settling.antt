-- The work list of live_packets: labels, entries and sets as words; and one source pulled from, by the rule for a run of calls (aut_stage).
use Rattle.std.specs.Prelude.{Option, Result, Ok, Err, ok_or, if◌then◌else◌}
use mathlib.Core.Path.{◌≡◌, refl, sym, ◌∙◌, ap, ap₂, subst, fun_ext}
use mathlib.Core.Bool.{Bool, true, false}
use mathlib.Core.List.{List, ◌∷◌}
use Prim.Native.Nat.{ℕ, zero, suc, ◌+◌, ◌*◌, ◌-◌, ◌/◌, ◌≤◌, ◌<◌}
use native.Mathlib.Omega.{arith}
use lib.Dec.{eqb, ltb}
use lib.ListN.{length, get_or, set, length-set}
use lib.Seq.{get_or-set_same, get_or-set_other}
use borrow.Author.Tests.{eq-eqb, ne_eqb, eqb-true, eqb-false, lt-ltb, le-ltb}
use Rattle.std.specs.Result.{IsErr, IsErrAnd}
use Rattle.common.specs.Packets.{any}
use Rattle.common.specs.Outcome.{Outcome, refused, given, Step, return, after, ◌>>=◌}
use Rattle.refusal.specs.declared.Refusal.{Refusal}
use Rattle.refusal.specs.declared.Refusal.TheVariants.{Pending}
use Rattle.refusal.proofs.Passed.{passed}
use Rattle.netkat.specs.Lists.{State, Transition}
use Rattle.netkat_steps.specs.ListSteps.{Edge, Are}
use Rattle.sp_steps.specs.Model as Sp
use Rattle.sp_steps.specs.Wf as SpLaws
use Rattle.sp_steps.specs.Reuse.{SpNoted}
use Rattle.sp.specs.declared.SP.{SP}
use Rattle.spp_steps.specs.Wf.{ValidAt}
use Rattle.spp_steps.proofs.Laws.{by_test}
use Rattle.spp_steps.specs.ImageModel as Images
use Rattle.spp_image.specs.Reuse.{Written}
use Rattle.aut_steps.specs.Tables as Aut
use Rattle.aut_st_steps.specs.Edges.{edges}
use Rattle.aut_delta_steps.specs.Delta.{start_of, count_of, list_at}
use Rattle.aut_delta_steps.specs.Fits.{tables as readings}
use Rattle.aut_query_steps.specs.Tables.{Tables, on_sets, making_sets}
use Rattle.aut_query_steps.specs.Search.{capacity}
use Rattle.aut_query_steps.specs.Live as M
use Rattle.aut_query_steps.specs.Live.{live_at, work, label_to}
use Rattle.aut_query_stage.specs.Lent.{tables_in, query_layer}
use Rattle.aut_query_stage.proofs.Lent.{query_laws}
use Rattle.aut_states.specs.Clauses.{limits_of}
use Rattle.aut_states.specs.declared.Config.{Config}
use Rattle.aut_states.specs.declared.Limits.{Limits}
use Rattle.aut_relations.specs.declared.Aut.{Aut as Lent}
use Rattle.aut_relations.specs.Lent.{nodes_in}
use Rattle.aut_stage.specs.Rule.{Post, Stage}
use Rattle.aut_stage.proofs.Rule.{begin, next, stuck, instead, finish, done, all_of}
use Rattle.aut_sets.specs.Lent.{OnlySets, OnlyMarks, sets_in, diagrams_in}
use Rattle.aut_sets.specs.Clauses.{Gives, PreSets, PreLead}
use Rattle.aut_free.specs.Clear.{clear, clear_tables}
use Rattle.aut_free.proofs.Clearing.{clear_kept}
use Rattle.aut_query_calls.specs.Working.{clear_in}
use Rattle.aut_query_calls.specs.Working.{SetIn}
use Rattle.aut_query_calls.proofs.Ran.{Ran}
use Rattle.aut_relations.proofs.Kept.{keeps_trans}
use Rattle.aut_sets.proofs.Small.{set_small}
use Rattle.aut_live_words.specs.Work.{work_of, live_by, seconds, stack, Held, Enlarges}
use Rattle.aut_live_words.specs.Clauses.{Listed, PreEnlarge}
use Rattle.aut_live_pull.specs.Clauses.{HeldIn, work_in, Source, Pulled, pulling}
use Rattle.aut_query_calls.proofs.Calls.{asks_lead, asks_sets, pull_ran, union_ran}
use Rattle.aut_live_words.proofs.Words.{seconds_same}
use Rattle.aut_live_words.proofs.Held as held
use Rattle.aut_live_words.proofs.Held.{work_here, work_there, live_reached, live_set, held_ran, tables_marked, clear_set_in, working_set}
use Rattle.aut_query_calls.specs.Working.{with_words}

-- ---- the label of a transition

by_label : {l m : ℕ} → M.by l ≡ M.by m → l ≡ m
by_label e = cc

none_by : {m : ℕ} → M.none ≡ M.by m → ⊥
none_by e = let z : ◌≡◌ {A = ℕ} 0 1 = cc in absurd (omega arith)

-- a label of a list is a relation
pub label_at : {N : ℕ} {L : Aut.Limits} {a : Aut.Aut} (t : ℕ) {lab : ℕ} {es : List Edge} {list : List (Transition State N)} → Are (readings N L) a es list → label_to t es ≡ M.by lab → ValidAt a.nodes N lab
unfolding label_to
label_at t Are.none q = absurd (none_by q)
label_at {N} {L} {a} t {lab} (Are.also {s} {l} {es = es} k d as') q =
    by_test (eqb t s)
    (λ b. subst (ValidAt a.nodes N) (by_label (sym (ap (λ (c : Bool). if c then M.by l else label_to t es) b) ∙ q)) d.at)
    (λ b. label_at t as' (sym (ap (λ (c : Bool). if c then M.by l else label_to t es) b) ∙ q))

-- ---- entries

pub capacity_lent : (k : ℕ) → capacity k ≤ k
capacity_lent k = omega arith

pub stack_length : (p : List ℕ) (m : ℕ) → length (stack p m) ≡ m
unfolding stack
stack_length p zero = refl
stack_length p (suc m) = ap suc (stack_length p m)

pub stack_same : (p q : List ℕ) (m : ℕ) → ((i : ℕ) → i < m → get_or q (2 * i) 0 ≡ get_or p (2 * i) 0) → stack q m ≡ stack p m
unfolding stack
stack_same p q zero f = refl
stack_same p q (suc m) f = ap₂ (λ (x : ℕ) (l : List ℕ). x ∷ l) (f m (omega arith)) (stack_same p q m (λ i l. f i (omega arith)))

-- a write to the entry on top, or above it
pub stack_below : (p : List ℕ) (m j v : ℕ) → m ≤ j → stack (set p (2 * j) v) m ≡ stack p m
stack_below p m j v l = stack_same p (set p (2 * j) v) m (λ i k. get_or-set_other p (2 * j) (2 * i) v 0 (λ q. omega arith))

pub stack_push : (p : List ℕ) (m s : ℕ) → 2 * m < length p → stack (set p (2 * m) s) (m + 1) ≡ s ∷ stack p m
unfolding stack
stack_push p m s l =
    ap (stack (set p (2 * m) s)) {x = m + 1} {y = suc m} (omega arith)
    ∙ ap₂ (λ (x : ℕ) (l : List ℕ). x ∷ l) (get_or-set_same p (2 * m) s 0 l) (stack_below p m m s (omega arith))

pub odd_kept : (p : List ℕ) (j v i : ℕ) → get_or (set p (2 * j) v) (2 * i + 1) 0 ≡ get_or p (2 * i + 1) 0
odd_kept p j v i = get_or-set_other p (2 * j) (2 * i + 1) v 0 (λ q. omega arith)

-- ---- sets

pub count_kept : (st : List ℕ) (x v u : ℕ) → count_of (set st (12 * x + 9) v) u ≡ count_of st u
unfolding count_of
count_kept st x v u = get_or-set_other st (12 * x + 9) (12 * u + 6) v 0 (λ q. omega arith)

-- ---- what is held while the list is worked off

module _ {N : ℕ} {l : Limits} {σ : Tables} {s p : List ℕ} {n m : ℕ} (H : Held N l σ s p n m) where
  abbrev st : List ℕ
  st = σ.base.aut.states.words

  abbrev tr : List ℕ
  tr = σ.base.transitions.words

  pub clear_count : (x : ℕ) → count_of (clear st) x ≡ count_of st x
  unfolding count_of
  clear_count x = clear_kept st x 6 (omega arith)

  clear_start : (x : ℕ) → start_of (clear st) x ≡ start_of st x
  unfolding start_of
  clear_start x = clear_kept st x 5 (omega arith)

  held_list : (x : ℕ) → 0 < work_of st x → 0 < count_of st x → Listed st tr x
  held_list x k some =
      let L = H.working.ready.ordered.worked.lists in
      record {
        state = held.held_there H x k;
        some = some;
        inside = omega (arith, L.fit, (L.held x (held.held_state H x k)).inside (count_of st x - 1) (omega (arith, clear_count x)), clear_start x);
      }

  list_is : (x : ℕ) → list_at (clear_tables σ).base x ≡ edges tr (start_of st x) (count_of st x - 1)
  unfolding list_at
  list_is x = ap₂ (λ (a k : ℕ). edges tr a (k - 1)) (clear_start x) (clear_count x)

  held_label : (y x : ℕ) {lab : ℕ} → 0 < work_of st x → 0 < count_of st x → label_to y (list_at (clear_tables σ).base x) ≡ M.by lab → ValidAt σ.base.aut.nodes N lab
  held_label y x k some q = label_at y ((H.working.ready.ordered.worked.lists.held x (held.held_state H x k)).list (omega (arith, clear_count x))).are q

  -- the set of x is h now, and x goes on `todo`
  module _ (x h : ℕ) (reached : 0 < work_of st x) (at : SpLaws.ValidAt σ.sets N h) (below : m < capacity (length p / 2)) where
    abbrev st' : List ℕ
    st' = set st (12 * x + 9) (h + 1)

    abbrev p' : List ℕ
    p' = set p (2 * m) x

    here : (P : ℕ → ℕ → Type 0) → P x (h + 1) → ((u : ℕ) → P u (work_of st u)) → (u : ℕ) → P u (work_of st' u)
    here P a f u = by_test (eqb x u)
        (λ b. subst (λ (v : ℕ). P v (work_of st' v)) (eqb-true x u b) (subst (P x) (sym (work_here st x (h + 1) (omega (arith, held.held_there H x reached)))) a))
        (λ b. subst (P u) (sym (work_there st x (h + 1) u (λ q. eqb-false x u b (sym q)))) (f u))

    held_more : Held N l (with_words st' σ) s p' n (m + 1)
    held_more = record {
      working = working_set σ x 9 (h + 1) (omega arith) (omega arith) (held.held_state H x reached) H.working;
      marked = λ u. ap (any (eqb u)) (seconds_same p p' 0 n (λ i a b. odd_kept p m x i)) ∙ here (λ u v. any (eqb u) (seconds p 0 n) ≡ ltb 0 v)
          (H.marked x ∙ lt-ltb 0 (work_of st x) reached ∙ sym (lt-ltb 0 (h + 1) (omega arith))) (λ u. H.marked u) u;
      sets = here (λ u v. 0 < v → SpLaws.ValidAt σ.sets N (v - 1))
          (λ _. subst (SpLaws.ValidAt σ.sets N) {x = h} {y = h + 1 - 1} (omega arith) at) (λ u. H.sets u);
      rest = λ u w a b q. get_or-set_other st (12 * x + 9) (12 * u + w) (h + 1) 0 (λ z. q (omega arith)) ∙ H.rest u w a b q;
      todo = λ i k. get_or-set_other p (2 * m) (2 * i) x 0 (λ q. omega arith) ∙ H.todo i (omega arith);
      after = λ i k. odd_kept p m x i ∙ H.after i k;
      room = subst (λ (k : ℕ). n ≤ capacity (k / 2)) (sym (length-set p (2 * m) x)) H.room;
      high = subst (λ (k : ℕ). m + 1 ≤ capacity (k / 2)) (sym (length-set p (2 * m) x)) (omega arith);
    }

-- ---- packet sets were made

module _ {x y : Lent} (K : OnlySets x y) where
  -- the work list is as it was
  same_work : (k : Config) (m : ℕ) → work_in k y m ≡ work_in k x m
  same_work k m = rw K.states (rw K.pending refl)

  source_kept : {k : Config} {n m t s : ℕ} → Source k x n m t s → HeldIn k y n m → Source k y n m t s
  source_kept S H = record { held = H; target = rw K.states S.target; source = rw K.states S.source; listed = rw K.states S.listed }

  held_made : {k : Config} {n m : ℕ} {V : Type 0} {P : Tables → ℕ → Type 0} {see : V → ℕ} {o : Step Tables ℕ} {v : V} → HeldIn k x n m → Ran k 0 0 P see o x (Ok v) y → HeldIn k y n m
  held_made H R = rw K.pending (held_ran H R.working R.post.then.ext.sets R.unwritten)

-- ---- the set of a state has grown

-- what `enlarge` is for the m states of `todo`
abbrev enlarging : Config → Lent → (m s h : ℕ) → Step Tables M.Work
enlarging k x m s h = M.enlarge (capacity (length x.pending.now / 2)) s h (work_in k x m)

module _ {k : Config} {x : Lent} {n m t s : ℕ} (S : Source k x n m t s) (h : ℕ) (at : SpLaws.ValidAt (sets_in x) k.fields h) where
  pub enlarge_asks : PreEnlarge x.states.words.now x.pending.now m s h
  enlarge_asks = record {
    state = held.held_there S.held s S.source;
    reached = S.source;
    small = set_small k.fields h S.held.working.ready.ordered.sets at;
    fits = omega (arith, S.held.high, capacity_lent (length x.pending.now / 2));
  }

  abbrev grown : M.Work
  grown = work (s ∷ stack x.pending.now m) (live_at s h (live_by k.fields x.states.words.now))

  enlarge_is : (a b : Bool) → eqb h (live_by k.fields x.states.words.now s) ≡ a → ltb (length (stack x.pending.now m)) (capacity (length x.pending.now / 2)) ≡ b
      → enlarging k x m s h (clear_in x) ≡ (if a then return (work_in k x m) else (if b then return grown else (λ σ. refused 24))) (clear_in x)
  unfolding M.enlarge
  enlarge_is a b e f = ap₂ (λ (a b : Bool). (if a then return (work_in k x m) else (if b then return grown else (λ σ. refused 24))) (clear_in x)) e f

  -- the set that s had
  had : live_by k.fields x.states.words.now s ≡ work_of x.states.words.now s - 1
  had = live_reached k.fields x.states.words.now s S.source

  differs : (h ≡ work_of x.states.words.now s - 1 → ⊥) → eqb h (live_by k.fields x.states.words.now s) ≡ false
  differs e = ne_eqb h (live_by k.fields x.states.words.now s) (λ z. e (z ∙ had))

  module _ {y : Lent} (K : OnlyMarks x y) {st' p' : List ℕ} (a : y.states.words.now ≡ st') (b : y.pending.now ≡ p') where
    tables_are : tables_in y ≡ with_words st' (tables_in x)
    tables_are = tables_marked K ∙ ap (λ (u : List ℕ). with_words u (tables_in x)) a

    came : {m' : ℕ} → clear_tables (with_words st' (tables_in x)) ≡ clear_in x → enlarging k x m s h (clear_in x) ≡ given (clear_in x) (work (stack p' m') (live_by k.fields st')) → Held k.fields k.limits (with_words st' (tables_in x)) x.scratch.now p' n m'
        → ((i : ℕ) → get_or p' (2 * i + 1) 0 ≡ get_or x.pending.now (2 * i + 1) 0) → ((u : ℕ) → count_of st' u ≡ count_of x.states.words.now u) → Pulled k n (enlarging k x m s h) x (Ok m') y
    came {m'} c e H f g = record {
      post = record {
        post = subst (λ (τ : Tables). Post (query_layer k.fields k.limits) 0 0 (λ τ w. Unit) (work_in k y) (enlarging k x m s h (clear_in x)) (clear_in x) (Ok m') τ x.scratch.now y.scratch.now) (sym (ap clear_tables tables_are ∙ c))
            (rw K.scratch (done (query_laws k.fields k.limits) 0 0 (begin (query_laws k.fields k.limits) 0 0 S.held.working.ready (e ∙ ap₂ (λ (u p : List ℕ). given (clear_in x) (work (stack p m') (live_by k.fields u))) (sym a) (sym b))) tt));
      };
      held = subst (λ (τ : Tables). Held k.fields k.limits τ y.scratch.now y.pending.now n m') (sym tables_are) (rw K.scratch (rw b H));
      second = λ i. ap (λ (p : List ℕ). get_or p (2 * i + 1) 0) b ∙ f i;
      lists = λ u. ap (λ (st : List ℕ). count_of st u) a ∙ g u;
    }

  abbrev st₀ : List ℕ
  st₀ = x.states.words.now

  abbrev p₀ : List ℕ
  p₀ = x.pending.now

  abbrev Comes : Option ℕ → List ℕ → List ℕ → Type 0
  Comes r st' p' = (y : Lent) → OnlyMarks x y → y.states.words.now ≡ st' → y.pending.now ≡ p' → Pulled k n (enlarging k x m s h) x (ok_or r Pending) y

  comes : {r : Option ℕ} {st' p' : List ℕ} → Enlarges (capacity (length p₀ / 2)) m s h st₀ p₀ r st' p' → Comes r st' p'
  comes (Enlarges.same e) y K a b = came K a b refl (enlarge_is true (ltb (length (stack p₀ m)) (capacity (length p₀ / 2))) (eq-eqb h (live_by k.fields st₀ s) (e ∙ sym had)) refl) S.held (λ i. refl) (λ u. refl)
  comes (Enlarges.more e f) y K a b = came K a b (clear_set_in (tables_in x) s 9 (h + 1) (omega arith) (omega arith))
      (enlarge_is false true (differs e) (lt-ltb (length (stack p₀ m)) (capacity (length p₀ / 2)) (omega (arith, f, stack_length p₀ m)))
      ∙ ap₂ (λ (ts : List ℕ) (f : ℕ → ℕ). given (clear_in x) (work ts f)) (sym (stack_push p₀ m s (omega (arith, f, capacity_lent (length p₀ / 2)))))
      (sym (fun_ext (live_set k.fields st₀ s h (omega (arith, held.held_there S.held s S.source))))))
      (held_more S.held s h S.source at f) (odd_kept p₀ m s) (count_kept st₀ s (h + 1))
  comes (Enlarges.full e f) y K a b = record {
    post = record { post = record { is = enlarge_is false false (differs e) (le-ltb (length (stack p₀ m)) (capacity (length p₀ / 2)) (omega (arith, f, stack_length p₀ m))); then = tt } };
    held = tt;
    second = tt;
    lists = tt;
  }

  pub enlarge_pulled : {y : Lent} {r : Option ℕ} → OnlyMarks x y → Enlarges (capacity (length p₀ / 2)) m s h st₀ p₀ r y.states.words.now y.pending.now → Pulled k n (enlarging k x m s h) x (ok_or r Pending) y
  enlarge_pulled {y} K E = comes E y K refl refl

-- ---- one source

module _ {k : Config} {x : Lent} {n m t s : ℕ} (S : Source k x n m t s) where
  abbrev N : ℕ
  N = k.fields

  abbrev l : Limits
  l = k.limits

  abbrev κ : Tables
  κ = clear_in x

  abbrev lent : ℕ
  lent = length x.pending.now / 2

  abbrev words : List ℕ
  words = x.states.words.now

  abbrev whole : Outcome Tables M.Work
  whole = pulling k x t s m κ

  abbrev back : M.Label → Outcome Tables M.Work
  back b = elim b [ M.by lab ↦ M.pull_back N (limits_of l) lent t s lab (work_in k x m) κ | M.none ↦ given κ (work_in k x m) ]

  abbrev Labels : M.Label → Type 0
  Labels b = label_to t (edges x.transitions.words.now (start_of words s) (count_of words s - 1)) ≡ b

  whole_is : (b : M.Label) → Labels b → whole ≡ back b
  unfolding M.pull_from
  whole_is b q = ap back (ap (label_to t) (list_is S.held s) ∙ q)

  pub pull_target : 12 * t + 11 < length words
  pull_target = held.held_there S.held t S.target

  pub pull_listed : Listed words x.transitions.words.now s
  pull_listed = held_list S.held s S.source S.listed

  -- no transition leads to t
  pub pull_none : Labels M.none → Pulled k n (pulling k x t s m) x (Ok m) x
  pull_none q = record {
    post = record { post = done (query_laws N l) 0 0 (begin (query_laws N l) 0 0 S.held.working.ready (whole_is M.none q)) tt };
    held = S.held;
    second = λ i. refl;
    lists = λ u. refl;
  }

  -- the set of t, as it is read
  module _ (lab : ℕ) (q : Labels (M.by lab)) {ahead : ℕ} (a : ahead ≡ get_or words (12 * t + 9) 0 - 1) where
    lab_at : ValidAt (nodes_in x) N lab
    lab_at = held_label S.held t s S.source S.listed (ap (label_to t) (list_is S.held s) ∙ q)

    ahead_is : work_of words t - 1 ≡ ahead
    unfolding work_of
    ahead_is = sym a

    ahead_at : SpLaws.ValidAt (sets_in x) N ahead
    ahead_at = subst (SpLaws.ValidAt (sets_in x) N) ahead_is (S.held.sets t S.target)

    pub pull_asks : PreLead N (diagrams_in x) x.scratch.now ahead lab
    pull_asks = asks_lead x S.held.working ahead ahead_at lab lab_at

    abbrev united : ℕ → ℕ → Step Tables M.Work
    united here accepted = on_sets (Sp.union N here accepted) >>= λ combined. M.enlarge (capacity lent) s combined (work_in k x m)

    stage_0 : Stage (query_layer N l) 0 0 whole (after (making_sets (Images.pull N N lab ahead) κ) (united (work_of words s - 1))) κ κ x.scratch.now x.scratch.now
    unfolding M.pull_back
    stage_0 = begin (query_laws N l) 0 0 S.held.working.ready
        (whole_is (M.by lab) q ∙ ap₂ (λ (a b : ℕ). after (making_sets (Images.pull N N lab a) κ) (united b)) (live_reached N words t S.target ∙ ahead_is) (live_reached N words s S.source))

    abbrev Pulls : Result SP Refusal → Lent → Type 0
    Pulls r y = Gives (Written N) (λ h. h.0) (Images.pull N N lab ahead) (diagrams_in x) r (diagrams_in y) x.scratch.now y.scratch.now

    module _ {y : Lent} (K1 : OnlySets x y) where
      ran_1 : {r : Result SP Refusal} → Pulls r y → Ran k 0 0 (SetIn N) (λ h. h.0) (making_sets (Images.pull N N lab ahead)) x r y
      ran_1 G = pull_ran S.held.working ahead ahead_at lab lab_at K1 G

      pub pull_stuck : {e : Refusal} {r : Result ℕ Refusal} → IsErr r × IsErrAnd r (λ a. a ≡ e) → Pulls (Err e) y → Pulled k n (pulling k x t s m) x r y
      pull_stuck q G = subst (λ (r : Result ℕ Refusal). Pulled k n (pulling k x t s m) x r y) (sym (passed q))
          (record { post = record { post = stuck (query_laws N l) 0 0 (ran_1 G).post (united (work_of words s - 1)) stage_0 }; held = tt; second = tt; lists = tt })

      module _ {g : SP} (G1 : Pulls (Ok g) y) where
        source_1 : Source k y n m t s
        source_1 = source_kept K1 S (held_made K1 S.held (ran_1 G1))

        pub pull_source : 12 * s + 11 < length y.states.words.now
        pull_source = held.held_there source_1.held s source_1.source

        pub pull_reached : 0 < get_or y.states.words.now (12 * s + 9) 0
        unfolding work_of
        pull_reached = source_1.source

        -- the set of s, as it is read
        module _ {own : ℕ} (is : own ≡ get_or y.states.words.now (12 * s + 9) 0 - 1) where
          own_is : work_of y.states.words.now s - 1 ≡ own
          unfolding work_of
          own_is = sym is

          stage_1 : Stage (query_layer N l) 0 0 whole (united own g.0 (clear_in y)) κ (clear_in y) x.scratch.now y.scratch.now
          stage_1 = instead (query_laws N l) 0 0 (next (query_laws N l) 0 0 (ran_1 G1).post (all_of 0 0) (united (work_of words s - 1)) stage_0)
              (ap (λ (u : List ℕ). united (work_of u s - 1) g.0 (clear_in y)) (rw K1.states refl) ∙ ap (λ (o : ℕ). united o g.0 (clear_in y)) own_is)

          here_at : SpLaws.ValidAt (sets_in y) N own
          here_at = subst (SpLaws.ValidAt (sets_in y) N) own_is (source_1.held.sets s source_1.source)

          pub union_asks : PreSets N (sets_in y) y.scratch.now own g.0
          union_asks = asks_sets y source_1.held.working own here_at g.0 (ran_1 G1).post.then.holds

          abbrev Unites : Result SP Refusal → Lent → Type 0
          Unites r z = Gives SpNoted (λ h. h.0) (Sp.union N own g.0) (sets_in y) r (sets_in z) y.scratch.now z.scratch.now

          module _ {z : Lent} (K2 : OnlySets y z) where
            ran_2 : {r : Result SP Refusal} → Unites r z → Ran k 0 0 (SetIn N) (λ h. h.0) (on_sets (Sp.union N own g.0)) y r z
            ran_2 G = union_ran source_1.held.working own here_at g.0 (ran_1 G1).post.then.holds K2 G

            pub union_stuck : {e : Refusal} {r : Result ℕ Refusal} → IsErr r × IsErrAnd r (λ a. a ≡ e) → Unites (Err e) z → Pulled k n (pulling k x t s m) x r z
            union_stuck q G = subst (λ (r : Result ℕ Refusal). Pulled k n (pulling k x t s m) x r z) (sym (passed q))
                (record { post = record { post = stuck (query_laws N l) 0 0 (ran_2 G).post (λ combined. M.enlarge (capacity lent) s combined (work_in k x m)) stage_1 }; held = tt; second = tt; lists = tt })

            module _ {b : SP} (G2 : Unites (Ok b) z) where
              source_2 : Source k z n m t s
              source_2 = source_kept K2 source_1 (held_made K2 source_1.held (ran_2 G2))

              kept : OnlySets x z
              kept = keeps_trans K1 K2

              stage_2 : Stage (query_layer N l) 0 0 whole (enlarging k z m s b.0 (clear_in z)) κ (clear_in z) x.scratch.now z.scratch.now
              stage_2 = instead (query_laws N l) 0 0 (next (query_laws N l) 0 0 (ran_2 G2).post (all_of 0 0) (λ combined. M.enlarge (capacity lent) s combined (work_in k x m)) stage_1)
                  (ap₂ (λ (c : ℕ) (w : M.Work). M.enlarge (capacity c) s b.0 w (clear_in z)) (rw kept.pending refl) (sym (same_work kept k m)))

              pub enlarge_ready : PreEnlarge z.states.words.now z.pending.now m s b.0
              enlarge_ready = enlarge_asks source_2 b.0 (ran_2 G2).post.then.holds

              with_all : {u : Lent} (r : Result ℕ Refusal) → Pulled k n (enlarging k z m s b.0) z r u → Pulled k n (pulling k x t s m) x r u
              with_all (Ok v) D = record {
                post = record { post = finish (query_laws N l) 0 0 stage_2 (Ok v) D.post.post (all_of 0 0) };
                held = D.held;
                second = λ i. D.second i ∙ rw kept.pending refl;
                lists = λ v. D.lists v ∙ rw kept.states refl;
              }
              with_all (Err e) D = record { post = record { post = finish (query_laws N l) 0 0 stage_2 (Err e) D.post.post (all_of 0 0) }; held = tt; second = tt; lists = tt }

              module _ {u : Lent} (K3 : OnlyMarks z u) where
                abbrev Grows : Option ℕ → Type 0
                Grows r = Enlarges (capacity (length z.pending.now / 2)) m s b.0 z.states.words.now z.pending.now r u.states.words.now u.pending.now

                pub enlarged : (o : Option ℕ) {r : Result ℕ Refusal} → Grows o → r ≡ ok_or o Pending → Pulled k n (pulling k x t s m) x r u
                enlarged o E q = subst (λ (r : Result ℕ Refusal). Pulled k n (pulling k x t s m) x r u) (sym q) (with_all (ok_or o Pending) (enlarge_pulled source_2 b.0 (ran_2 G2).post.then.holds K3 E))
