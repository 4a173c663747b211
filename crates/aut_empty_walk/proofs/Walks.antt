-- The fresh packets of a state along one transition, and along its list: the bodies of `follow` and `walk`, by the rule for a run of calls (aut_stage).
use Rattle.std.specs.Prelude.{if◌then◌else◌, Result, Ok, Err, Option, Some, None, ok_or}
use mathlib.Core.Path.{◌≡◌, refl, sym, ◌∙◌, ap, ap₂, subst}
use mathlib.Core.Bool.{Bool, true, false}
use mathlib.Core.List.{List, ◌∷◌, map}
use Prim.Native.Nat.{ℕ, ◌+◌, ◌*◌, ◌-◌, ◌/◌, ◌≤◌, ◌<◌}
use native.Mathlib.Omega.{arith}
use lib.Dec.{ltb}
use lib.ListN.{length, set}
use borrow.Author.Tests.{lt-ltb, le-ltb}
use Rattle.common.specs.Outcome.{Outcome, refused, given, Step, return, after}
use Rattle.refusal.specs.declared.Refusal.{Refusal}
use Rattle.refusal.specs.Numbers.{number_of}
use Rattle.netkat_steps.specs.ListSteps.{Edge}
use Rattle.netkat_steps.specs.Handles as Handles
use Rattle.netkat_steps.specs.Handles.{Entry, Link}
use Rattle.sp_steps.specs.Model as Sp
use Rattle.sp_steps.proofs.Laws as SpLaws
use Rattle.sp.specs.declared.SP.{SP}
use Rattle.spp_steps.proofs.Laws.{at_ext}
use Rattle.spp_steps.specs.ImageModel as Images
use Rattle.spp.specs.declared.SPPstore.{SPPstore}
use Rattle.spp_image.specs.Reuse.{Written}
use Rattle.aut_steps.proofs.Wf.{state_grown}
use Rattle.aut_st_steps.specs.Edges.{edges}
use Rattle.aut_st_steps.proofs.Places.{edge_at, edges_on, edges_done}
use Rattle.aut_st_edges.specs.Clauses.{edge_of}
use Rattle.aut_st_edges.specs.declared.Transition.{Transition}
use Rattle.aut_st_source.specs.declared.Span.{Span}
use Rattle.aut_st_source.specs.Stored.{PreFind, PostFind}
use Rattle.aut_delta_steps.specs.Delta.{start_of, count_of, list_at}
use Rattle.aut_delta_stage.specs.OnTables.{store_in}
use Rattle.aut_query_steps.specs.Tables.{Tables, making_sets}
use Rattle.aut_query_steps.specs.Search.{capacity, link}
use Rattle.aut_query_stage.specs.Lent.{tables_in, query_layer}
use Rattle.aut_query_stage.proofs.Lent.{query_laws}
use Rattle.aut_states.specs.Clauses.{limits_of}
use Rattle.aut_states.specs.declared.Config.{Config}
use Rattle.aut_stage.specs.Rule.{Laws, Post, Stage}
use Rattle.aut_stage.proofs.Rule.{begin, next, instead, done, all_of, Folds, Turned, turn, over, again}
use Rattle.aut_free.specs.Clear.{clear_tables}
use Rattle.aut_free.proofs.Clearing.{clear_kept}
use Rattle.aut_relations.specs.declared.Aut.{Aut as Lent}
use Rattle.aut_relations.specs.declared.Transitions.{Transitions}
use Rattle.aut_sets.specs.Lent.{diagrams_in, OnlySets, OnlyMarks, OnlySearch}
use Rattle.aut_sets.specs.Clauses.{PreLead, Gives}
use Rattle.aut_query_calls.specs.Working.{clear_in, Working, WorkingIn, EdgeIn}
use Rattle.aut_query_calls.specs.Working.{SetIn}
use Rattle.aut_query_calls.proofs.Works.{prepared}
use Rattle.aut_query_calls.proofs.Calls.{asks_lead, push_ran}
use Rattle.aut_query_calls.proofs.Ran.{Ran}
use Rattle.aut_query_calls.proofs.Listed.{edge_in}
use Rattle.aut_relations.proofs.Kept.{keeps_refl, keeps_trans}
use Rattle.aut_empty_words.specs.Words.{entries_of, Stack, Puts}
use Rattle.aut_empty_words.proofs.Stacks.{after_after, entries_length, entries_put, stack_put, stack_later, fits_in, same_tables}
use Rattle.aut_empty_walk.specs.Clauses.{search_in, Walks, along, FollowAsked, Follows, WalkAsked, WalksAll}

refused_walks : {k : Config} {o : Step Tables (List (Entry ℕ))} {x y : Lent} {r : Result ℕ Refusal} {e : Refusal} → r ≡ Err e → o (clear_in x) ≡ refused (number_of e) → Walks k o x r y
refused_walks {k} {o} {x} {y} q i = subst (λ (r : Result ℕ Refusal). Walks k o x r y) (sym q) (record { post = record { post = record { is = i; then = tt } }; held = tt })

-- ---- follow

module _ {k : Config} {x : Lent} {n fresh target label : ℕ} (R : FollowAsked k x n fresh target label) where
  abbrev N : ℕ
  N = k.fields

  abbrev p : List ℕ
  p = x.pending.now

  L : Laws (query_layer k.fields k.limits)
  L = query_laws k.fields k.limits

  abbrev whole : Outcome Tables (List (Entry ℕ))
  whole = along N (limits_of k.limits) (length x.pending.now / 2) fresh (record { target = target; label = label }) (entries_of x.pending.now n) (clear_in x)

  -- what is done with the packets that came along
  abbrev placing : ℕ → Step Tables (List (Entry ℕ))
  placing h = if Sp.is_zero N h then return (entries_of p n) else Handles.put (search_in k x) target h (entries_of p n)

  start : Stage (query_layer k.fields k.limits) 0 0 whole (after (making_sets (Images.push N N fresh label) (clear_in x)) placing) (clear_in x) (clear_in x) x.scratch.now x.scratch.now
  start = begin L 0 0 R.working.working.ready refl

  pub push_asks : PreLead N (diagrams_in x) x.scratch.now fresh label
  push_asks = asks_lead x R.working.working fresh R.at label R.edge.at

  module _ {y : Lent} (K : OnlySets x y) where
    abbrev Pushes : Result SP Refusal → Type 0
    Pushes r = Gives (Written N) (λ (h : SP). h.0) (Images.push N N fresh label) (diagrams_in x) r (diagrams_in y) x.scratch.now y.scratch.now

    ran : {r : Result SP Refusal} → Pushes r → Ran k 0 0 (SetIn N) (λ (h : SP). h.0) (making_sets (Images.push N N fresh label)) x r y
    ran G = push_ran R.working.working fresh R.at label R.edge.at K G

    pub follow_stuck : {e : Refusal} {r : Result ℕ Refusal} {z : Lent} → r ≡ Err e → Pushes (Err e) → Follows k n fresh target label x r z
    follow_stuck q G = refused_walks q (start.is ∙ ap (λ (o : Outcome Tables ℕ). after o placing) (ran G).post.is)

    module _ {h : SP} (G : Pushes (Ok h)) where
      W1 : Working N k.limits (tables_in y) y.scratch.now
      W1 = (ran G).working

      S1 : Stack N (clear_in y) p n
      S1 = stack_later (ran G).post.then.ext R.stack

      stage : Stage (query_layer k.fields k.limits) 0 0 whole (placing h.0 (clear_in y)) (clear_in x) (clear_in y) x.scratch.now y.scratch.now
      stage = next L 0 0 (ran G).post (all_of 0 0) placing start

      -- nothing came along
      pub follow_zero : true ≡ Sp.is_zero N h.0 → Follows k n fresh target label x (Ok n) y
      follow_zero z = record {
        post = record {
          post = rw K.pending (done L 0 0 (instead L 0 0 stage (ap (λ (b : Bool). (if b then return (entries_of p n) else Handles.put (search_in k x) target h.0 (entries_of p n)) (clear_in y)) (sym z))) tt);
        };
        held = (W1, rw K.pending S1);
      }

      module _ {z : Lent} (K2 : OnlyMarks y z) (same : z.states ≡ y.states) (nonzero : false ≡ Sp.is_zero N h.0) where
        abbrev q : List ℕ
        q = set (set p (2 * n) target) (2 * n + 1) h.0

        -- one more entry, by whether there is room
        room : {o : Outcome Tables (List (Entry ℕ))} (b : Bool) → ltb n (capacity (length p / 2)) ≡ b → (if b then return (record { state = target; packets = h.0 } ∷ entries_of p n) else (λ σ. refused 24)) (clear_in y) ≡ o
            → placing h.0 (clear_in y) ≡ o
        room b w e =
            ap (λ (b : Bool). (if b then return (entries_of p n) else Handles.put (search_in k x) target h.0 (entries_of p n)) (clear_in y)) (sym nonzero)
            ∙ ap (λ (b : Bool). (if b then return (record { state = target; packets = h.0 } ∷ entries_of p n) else (λ σ. refused 24)) (clear_in y))
            (ap (λ (i : ℕ). ltb i (capacity (length p / 2))) (entries_length p n) ∙ w) ∙ e

        pushed : n < capacity (length p / 2) → Post (query_layer k.fields k.limits) 0 0 (λ τ es. Unit) (entries_of q) whole (clear_in x) (Ok (n + 1)) (clear_in y) x.scratch.now y.scratch.now
        pushed l = done L 0 0 (instead L 0 0 stage (room true (lt-ltb n (capacity (length p / 2)) l) (ap (λ (es : List (Entry ℕ)). given (clear_in y) es) (sym (entries_put p n target h.0 (fits_in p n l)))))) tt

        placed : (o : Option ℕ) → Puts o x.pending.now n target h.0 z.pending.now → Follows k n fresh target label x (ok_or o Refusal.Pending) z
        placed (Some m) P = rw P.0 (record {
          post = record {
            post = rw K2.scratch (rw P.2 (subst (λ (τ : Tables). Post (query_layer k.fields k.limits) 0 0 (λ τ es. Unit) (entries_of q) whole (clear_in x) (Ok (n + 1)) (clear_tables τ) x.scratch.now y.scratch.now) (sym (same_tables K2 same)) (pushed P.1)));
          };
          held = (
            rw K2.scratch (subst (λ (τ : Tables). Working N k.limits τ y.scratch.now) (sym (same_tables K2 same)) W1),
            rw P.2 (subst (λ (τ : Tables). Stack N (clear_tables τ) q (n + 1)) (sym (same_tables K2 same)) (stack_put p n target h.0 (fits_in p n P.1) S1 (state_grown (ran G).post.then.ext.grown R.edge.known) (ran G).post.then.holds)),
          );
        })
        placed None P = refused_walks refl (stage.is ∙ room false (le-ltb n (capacity (length p / 2)) P) refl)

        pub follow_put : (o : Option ℕ) {r : Result ℕ Refusal} → Puts o y.pending.now n target h.0 z.pending.now → r ≡ ok_or o Refusal.Pending → Follows k n fresh target label x r z
        follow_put o {r} P e = subst (λ (r : Result ℕ Refusal). Follows k n fresh target label x r z) (sym e) (placed o (rw K.pending at P))

-- ---- walk

-- the links from place j on
abbrev links_on : Lent → ℕ → ℕ → List (Link ℕ)
links_on x i j = map link (edges x.transitions.words.now (start_of x.states.words.now i + j) (count_of x.states.words.now i - 1 - j))

-- one link, and then the others
folds : (k : Config) (x : Lent) (fresh : ℕ) → Folds (λ (e : Link ℕ) (pending : List (Entry ℕ)). along k.fields (limits_of k.limits) (length x.pending.now / 2) fresh e pending) (Handles.walk (search_in k x) fresh)
unfolding Handles.walk
folds k x fresh = record { none = λ es σ. refl; some = λ e es pending σ. sym (after_after (making_sets (Images.push k.fields k.fields fresh e.label) σ) _ _) }

abbrev Whole : Config → Lent → (n i fresh : ℕ) → Outcome Tables (List (Entry ℕ))
Whole k x n i fresh = Handles.walk (search_in k x) fresh (map link (list_at (store_in x) i)) (entries_of x.pending.now n) (clear_in x)

-- from x₀ on, j transitions are walked
pub record Along (k : Config) (x₀ : Lent) (n i fresh : ℕ) (x : Lent) (m j : ℕ) : Type 0 where
  pub keeps : OnlySearch x₀ x
  pub states : x.states ≡ x₀.states
  pub turned : Turned (query_layer k.fields k.limits) 0 0 (Handles.walk (search_in k x₀) fresh) (links_on x₀ i) (count_of x₀.states.words.now i - 1) (λ τ es. Unit) (Whole k x₀ n i fresh) (clear_in x₀) (clear_in x) x₀.scratch.now x.scratch.now (entries_of x.pending.now m) j
  pub working : WorkingIn k x
  pub stack : Stack k.fields (clear_in x) x.pending.now m

module _ {k : Config} {x₀ : Lent} {n i fresh : ℕ} (R : WalkAsked k x₀ n i fresh) where
  abbrev st : List ℕ
  st = x₀.states.words.now

  abbrev tr : List ℕ
  tr = x₀.transitions.words.now

  Q : Laws (query_layer k.fields k.limits)
  Q = query_laws k.fields k.limits

  F : Folds (λ (e : Link ℕ) (pending : List (Entry ℕ)). along k.fields (limits_of k.limits) (length x₀.pending.now / 2) fresh e pending) (Handles.walk (search_in k x₀) fresh)
  F = folds k x₀ fresh

  pub walk_find : PreFind st i
  unfolding count_of
  walk_find = record {
    state = omega (arith, R.asked.has, (prepared x₀ R.asked.working.working).worked.good.fits);
    has = omega (arith, R.list.stored.marked, clear_kept st i 6 (omega arith));
  }

  pub walk_begin : Along k x₀ n i fresh x₀ n 0
  unfolding list_at
  walk_begin = record {
    keeps = keeps_refl x₀;
    states = refl;
    turned = record {
      most = omega arith;
      stage = begin Q 0 0 R.asked.working.working.ready
          (ap₂ (λ (a b : ℕ). Handles.walk (search_in k x₀) fresh (map link (edges tr a b)) (entries_of x₀.pending.now n) (clear_in x₀))
          {x = start_of st i} {y = start_of st i + 0} {u = count_of st i - 1} {v = count_of st i - 1 - 0} (omega arith) (omega arith));
      holds = tt;
    };
    working = R.asked.working;
    stack = R.asked.stack;
  }

  -- the list where it is stored
  module _ {list : Span} (S : PostFind st i list) {x : Lent} {m j : ℕ} (I : Along k x₀ n i fresh x m j) where
    pub walk_end : list.count ≤ j → WalksAll k n i fresh x₀ (Ok m) x
    walk_end b = record {
      post = record {
        post = done Q 0 0 (over Q 0 0 F I.turned (ap (map link) (edges_done tr (start_of st i + j) (count_of st i - 1) j (omega (arith, b, S.count))))) tt;
      };
      held = (I.working.working, I.stack);
    }

    module _ (b : j < list.count) where
      fewer : j < count_of st i - 1
      fewer = omega (arith, b, S.count)

      pub walk_in : 2 * (list.start + j) + 1 < length x.transitions.words.now
      walk_in = rw I.keeps.transitions (omega (
        arith,
        fewer,
        S.start,
        ((prepared x₀ R.asked.working.working).worked.lists.held i R.asked.has).inside (count_of st i - 1) (omega (arith, fewer)),
        (prepared x₀ R.asked.working.working).worked.lists.fit,
      ))

      -- the transition that is read
      module _ {t : Transition} (e : edge_of t ≡ edge_at x.transitions.words.now (list.start + j)) where
        is : edge_of t ≡ edge_at tr (start_of st i + j)
        is = e ∙ ap (λ (w : Transitions). edge_at w.words.now (list.start + j)) I.keeps.transitions ∙ ap (λ (a : ℕ). edge_at tr (a + j)) (sym S.start)

        known : EdgeIn k.fields (clear_in x₀) (edge_of t)
        unfolding list_at
        known = subst (EdgeIn k.fields (clear_in x₀)) (sym is) (R.list.edges _ (edge_in tr (start_of st i) (count_of st i - 1) j fewer))

        pub follow_asks : FollowAsked k x m fresh t.target t.label.0
        follow_asks = record {
          working = I.working;
          stack = I.stack;
          at = SpLaws.at_ext I.turned.stage.ext.sets k.fields fresh R.asked.at;
          edge = record { known = state_grown I.turned.stage.ext.grown known.known; at = at_ext I.turned.stage.ext.grown.nodes k.fields t.label.0 known.at };
        }

        on_next : links_on x₀ i j ≡ link (edge_of t) ∷ links_on x₀ i (j + 1)
        on_next = ap (map link) (edges_on tr (start_of st i) (count_of st i - 1) j fewer) ∙ ap (λ (g : Edge). link g ∷ links_on x₀ i (j + 1)) (sym is)

        module _ {y : Lent} where
          -- what `follow` did, with as many entries lent as at the beginning
          came : {r : Result ℕ Refusal} → Follows k m fresh t.target t.label.0 x r y → Walks k (along k.fields (limits_of k.limits) (length x₀.pending.now / 2) fresh (link (edge_of t)) (entries_of x.pending.now m)) x r y
          came {r} G = subst (λ (c : ℕ). Walks k (along k.fields (limits_of k.limits) (c / 2) fresh (link (edge_of t)) (entries_of x.pending.now m)) x r y) I.keeps.pending.length G

          pub walk_stuck : {e : Refusal} {r : Result ℕ Refusal} {z : Lent} → r ≡ Err e → Follows k m fresh t.target t.label.0 x (Err e) y → WalksAll k n i fresh x₀ r z
          walk_stuck q G = refused_walks q ((turn Q 0 0 F I.turned on_next).is ∙ ap (λ (o : Outcome Tables (List (Entry ℕ))). after o (Handles.walk (search_in k x₀) fresh (links_on x₀ i (j + 1)))) (came G).post.post.is)

          pub walk_again : {m1 : ℕ} → OnlySearch x y → y.states ≡ x.states → Follows k m fresh t.target t.label.0 x (Ok m1) y → Along k x₀ n i fresh y m1 (j + 1)
          walk_again {m1} K s G = record {
            keeps = keeps_trans I.keeps K;
            states = s ∙ I.states;
            turned = again Q 0 0 F I.turned (omega (arith, fewer)) on_next (came G).post.post (all_of 0 0);
            working = record { fields = ap (λ (t : SPPstore). t.fields) K.spp ∙ I.working.fields; working = G.held.0 };
            stack = G.held.1;
          }
