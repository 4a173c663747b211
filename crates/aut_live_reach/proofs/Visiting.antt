-- visit and explore: a state's calls, one after another, by the rule for a run of calls (aut_stage), and the loop over the states that wait.
use Rattle.std.specs.Prelude.{Option, Some, None, Result, Ok, Err, ok_or, if◌then◌else◌}
use mathlib.Core.Path.{◌≡◌, refl, sym, ◌∙◌, ap, ap₂, subst, fun_ext}
use mathlib.Core.Bool.{Bool}
use mathlib.Core.List.{List, [], ◌∷◌, ◌++◌, Memᴰ}
use Prim.Native.Nat.{ℕ, zero, suc, ◌+◌, ◌*◌, ◌-◌, ◌/◌, ◌≤◌, ◌<◌}
use native.Mathlib.Omega.{arith}
use lib.Dec.{eqb}
use lib.ListN.{length, get_or, set}
use borrow.Author.Tests.{eq-eqb}
use Rattle.common.specs.Outcome.{Outcome, given, Step, return, after}
use Rattle.refusal.specs.declared.Refusal.{Refusal}
use Rattle.refusal.specs.declared.Refusal.TheVariants as refusal
use Rattle.netkat_steps.specs.ListSteps.{Edge}
use Rattle.sp.specs.declared.SP.{SP}
use Rattle.spp_steps.specs.ImageModel as Images
use Rattle.spp.specs.declared.SPP.{SPP}
use Rattle.spp_image.specs.Reuse.{Written}
use Rattle.aut_steps.specs.Wf.{states}
use Rattle.aut_st_steps.proofs.Places.{edge_at}
use Rattle.aut_delta_steps.specs.Epsilon.{epsilon}
use Rattle.aut_delta_steps.specs.Delta.{on_aut, start_of, count_of, list_at, delta}
use Rattle.aut_query_stage.specs.OnTables.{store_in, KeepsStore}
use Rattle.aut_query_steps.specs.Tables.{Tables, on_base, making_sets}
use Rattle.aut_query_steps.specs.Search.{capacity}
use Rattle.aut_query_steps.specs.Live as M
use Rattle.aut_query_steps.specs.Live.{Visit, Found, found, live_at}
use Rattle.aut_query_stage.specs.Lent.{tables_in, query_layer}
use Rattle.aut_query_stage.proofs.Lent.{query_laws}
use Rattle.aut_states.specs.Clauses.{limits_of}
use Rattle.aut_states.specs.declared.Config.{Config}
use Rattle.aut_states.specs.declared.Limits.{Limits}
use Rattle.aut_relations.specs.declared.Aut.{Aut as Lent}
use Rattle.aut_relations.specs.Lent.{aut_in, Keeps, Does}
use Rattle.aut_epsilon.specs.Asked.{EpsilonAsked, Later}
use Rattle.aut_stage.specs.Rule.{Stage}
use Rattle.aut_stage.proofs.Rule.{begin, next, instead, stuck, done, all_of}
use Rattle.aut_sets.specs.Lent.{diagrams_in, OnlySets, OnlyMarks, SameLent}
use Rattle.aut_sets.specs.Clauses.{Gives, PreImage}
use Rattle.aut_delta.specs.Clauses.{DeltaAsked, Deltas}
use Rattle.aut_free.specs.Clear.{clear, clear_tables}
use Rattle.aut_free.proofs.Clearing.{clear_kept}
use Rattle.aut_query_calls.specs.Working.{clear_in, WorkingIn, ListIn}
use Rattle.aut_query_calls.specs.Working.{SetIn, RelIn}
use Rattle.aut_query_calls.proofs.Ran.{Ran}
use Rattle.aut_query_calls.proofs.Listed.{edge_in}
use Rattle.aut_query_calls.proofs.Works.{asks_store, asks_epsilon, tables_put, clear_written}
use Rattle.aut_query_calls.proofs.Calls.{asks_image, epsilon_ran, bwd_ran, delta_ran}
use Rattle.aut_relations.proofs.Kept.{keeps_refl, keeps_trans}
use Rattle.aut_sets.proofs.Small.{set_small}
use Rattle.aut_live_words.specs.Work.{work_of, live_by, seconds, Held, Doubled, Enqueues}
use Rattle.aut_live_words.specs.Clauses.{PreEnqueue, PostEnqueue}
use Rattle.aut_live_words.proofs.Words.{seconds_same, seconds_split, seconds_one, seconds_on, seconds_done}
use Rattle.aut_live_words.proofs.Held.{same_rest, live_set, live_unwritten, held_ran, held_state, held_second, held_write, held_there, held_fits, tables_marked, Moved, enqueue_moved, enqueue_is, enqueue_refused}
use Rattle.aut_query_calls.specs.Working.{with_words}
use Rattle.aut_live_reach.specs.Clauses.{VisitAsked, visited_state, visiting, visit_in, Further, Visits, ExploreAsked, exploring, Explores}

-- the states before entry `head`, that of `head`, and those behind it
pub seconds_to : (p : List ℕ) (head : ℕ) → seconds p 0 head ++ get_or p (2 * head + 1) 0 ∷ [] ≡ seconds p 0 (head + 1)
seconds_to p head = sym (seconds_split p 0 head 1 ∙ ap (λ (l : List ℕ). seconds p 0 head ++ l) (ap (λ (a : ℕ). seconds p a 1) {x = 0 + head} {y = head} (omega arith) ∙ seconds_one p head))

pub seconds_parts : (p : List ℕ) (k n : ℕ) → k ≤ n → seconds p 0 k ++ seconds p k (n - k) ≡ seconds p 0 n
seconds_parts p k n l = ap (λ (a : ℕ). seconds p 0 k ++ seconds p a (n - k)) {x = k} {y = 0 + k} (omega arith) ∙ sym (seconds_split p 0 k (n - k)) ∙ ap (seconds p 0) {x = k + (n - k)} {y = n} (omega arith)

-- ---- visit

-- x is the state visited. The calls one after the other, each with what it promised
module _ {k : Config} {x₀ : Lent} {head n : ℕ} (P : VisitAsked k x₀ head n) {x : ℕ} (is : x ≡ get_or x₀.pending.now (2 * head + 1) 0) where
  abbrev N : ℕ
  N = k.fields

  abbrev l : Limits
  l = k.limits

  abbrev p : List ℕ
  p = x₀.pending.now

  abbrev lent : ℕ
  lent = length p / 2

  abbrev whole : Outcome Tables Visit
  whole = visiting k x₀ head n (clear_in x₀)

  abbrev waiting : List ℕ
  waiting = seconds p (head + 1) (n - (head + 1))

  abbrev k4 : ℕ → List Edge → Step Tables Visit
  k4 h list τ = after (M.enqueue (capacity lent) list (seconds p 0 head ++ x ∷ []) waiting τ) (λ w. return (record { ends = h; waiting = w }))

  abbrev k3 : ℕ → Step Tables Visit
  k3 h τ = after (on_base (delta N (limits_of l) x) τ) (k4 h)

  abbrev k2 : ℕ → Step Tables Visit
  k2 e τ = after (making_sets (Images.bwd N e) τ) k3

  abbrev At : Outcome Tables Visit → Lent → Type 0
  At o y = Stage (query_layer N l) 0 1088 whole o (clear_in x₀) (clear_in y) x₀.scratch.now y.scratch.now

  here : {σ : Tables} {s : List ℕ} → Held N l σ s p n n → 0 < work_of σ.base.aut.states.words x
  here H = rw is (held_second H head P.waits)

  known : x < x₀.states.count
  known = held_state P.held x (here P.held)

  working : WorkingIn k x₀
  working = record { fields = P.fields; working = P.held.working }

  pub visit_epsilon : EpsilonAsked N x₀ x
  visit_epsilon = asks_epsilon working known

  abbrev Epsilons : Result SPP Refusal → Lent → Type 0
  Epsilons r y = Does N 0 0 aut_in (λ (h : SPP). h.0) (epsilon N x) x₀ r y

  at_0 : At (after (on_base (on_aut (epsilon N x)) (clear_in x₀)) k2) x₀
  at_0 = begin (query_laws N l) 0 1088 P.held.working.ready (ap (λ (i : ℕ). M.visit N (limits_of l) lent i (seconds p 0 head) waiting (clear_in x₀)) (sym is))

  module _ {r : Result ℕ Refusal} {f : Refusal} {y : Lent} (q : r ≡ Err f) where
    pub visit_stuck_1 : Keeps x₀ y → Epsilons (Err f) y → Later N x x₀ (Err f) y → Visits k head n x₀ r y
    visit_stuck_1 K G A = rw q (record { post = record { post = stuck (query_laws N l) 0 1088 (epsilon_ran working known K G A).post k2 at_0 }; further = tt })

  module _ {x₁ : Lent} {e : SPP} (K1 : Keeps x₀ x₁) (G1 : Epsilons (Ok e) x₁) (A1 : Later N x x₀ (Ok e) x₁) where
    R1 : Ran k 0 0 (RelIn N) (λ (h : SPP). h.0) (on_base (on_aut (epsilon N x))) x₀ (Ok e) x₁
    R1 = epsilon_ran working known K1 G1 A1

    H1 : Held N l (tables_in x₁) x₁.scratch.now p n n
    H1 = held_ran P.held R1.working R1.post.then.ext.sets R1.unwritten

    at_1 : At (k2 e.0 (clear_in x₁)) x₁
    at_1 = next (query_laws N l) 0 1088 R1.post (record { from = omega arith; to = omega arith }) k2 at_0

    pub visit_image : PreImage N (diagrams_in x₁) x₁.scratch.now e.0
    visit_image = asks_image x₁ R1.working e.0 R1.post.then.holds

    abbrev Ends : Result SP Refusal → Lent → Type 0
    Ends r y = Gives (Written N) (λ (h : SP). h.0) (Images.bwd N e.0) (diagrams_in x₁) r (diagrams_in y) x₁.scratch.now y.scratch.now

    module _ {r : Result ℕ Refusal} {f : Refusal} {y : Lent} (q : r ≡ Err f) where
      pub visit_stuck_2 : OnlySets x₁ y → Ends (Err f) y → Visits k head n x₀ r y
      visit_stuck_2 K G = rw q (record { post = record { post = stuck (query_laws N l) 0 1088 (bwd_ran R1.working e.0 R1.post.then.holds K G).post k3 at_1 }; further = tt })

    module _ {x₂ : Lent} {h : SP} (K2 : OnlySets x₁ x₂) (G2 : Ends (Ok h) x₂) where
      R2 : Ran k 0 0 (SetIn N) (λ (h : SP). h.0) (making_sets (Images.bwd N e.0)) x₁ (Ok h) x₂
      R2 = bwd_ran R1.working e.0 R1.post.then.holds K2 G2

      H2 : Held N l (tables_in x₂) x₂.scratch.now p n n
      H2 = held_ran H1 R2.working R2.post.then.ext.sets R2.unwritten

      pub visit_small : h.0 + 1 < 4294967296
      visit_small = set_small N h.0 R2.post.then.ready.ordered.sets R2.post.then.holds

      pub visit_there : 12 * x + 11 < length x₂.states.words.now
      visit_there = held_there H2 x (here H2)

      at_2 : At (k3 h.0 (clear_in x₂)) x₂
      at_2 = next (query_laws N l) 0 1088 R2.post (record { from = omega arith; to = omega arith }) k3 at_1

      -- h is the set of x now
      module _ {x₃ : Lent} (K3 : OnlyMarks x₂ x₃) (same3 : x₃.pending ≡ x₂.pending) (w3 : x₃.states.words.now ≡ set x₂.states.words.now (12 * x + 9) (h.0 + 1)) where
        H3 : Held N l (tables_in x₃) x₃.scratch.now p n n
        H3 = rw (tables_put K3 w3, K3.scratch) (held_write H2 x h.0 (here H2) R2.post.then.holds)

        at_3 : At (k3 h.0 (clear_in x₃)) x₃
        at_3 = rw K3.scratch
            (subst (λ (τ : Tables). Stage (query_layer N l) 0 1088 whole (k3 h.0 τ) (clear_in x₀) τ x₀.scratch.now x₂.scratch.now) (sym (clear_written K3 x 9 (h.0 + 1) (omega arith) (omega arith) w3)) at_2)

        known3 : x < x₃.states.count
        known3 = held_state H3 x (here H3)

        working3 : WorkingIn k x₃
        working3 = record { fields = ap (λ s. s.fields) (K3.spp ∙ K2.spp) ∙ K1.spp.fields ∙ P.fields; working = H3.working }

        pub visit_delta : DeltaAsked k x₃ x
        visit_delta = record { store = asks_store working3; limit = H3.working.ready.limit; has = known3 }

        module _ {r : Result ℕ Refusal} {f : Refusal} {y : Lent} (q : r ≡ Err f) where
          pub visit_stuck_3 : KeepsStore x₃ y → Deltas {V = Unit {0}} k x x₃ (Err f) y → Visits k head n x₀ r y
          visit_stuck_3 K G = rw q (record { post = record { post = stuck (query_laws N l) 0 1088 (delta_ran working3 known3 K G).post (k4 h.0) at_3 }; further = tt })

        module _ {x₄ : Lent} {u : Unit {0}} (K4 : KeepsStore x₃ x₄) (G4 : Deltas k x x₃ (Ok u) x₄) where
          R4 : Ran k 0 1088 (ListIn N x) (λ (v : Unit {0}). list_at (store_in x₄) x) (on_base (delta N (limits_of l) x)) x₃ (Ok u) x₄
          R4 = delta_ran working3 known3 K4 G4

          kept : x₄.pending.now ≡ p
          kept = ap (λ p. p.now) (K4.pending ∙ same3 ∙ K2.pending ∙ K1.pending)

          abbrev st₄ : List ℕ
          st₄ = x₄.states.words.now

          abbrev tr₄ : List ℕ
          tr₄ = x₄.transitions.words.now

          abbrev es : List Edge
          es = list_at (store_in x₄) x

          H4 : Held N l (tables_in x₄) x₄.scratch.now p n n
          H4 = held_ran H3 R4.working R4.post.then.ext.sets R4.unwritten

          at_4 : At (k4 h.0 es (clear_in x₄)) x₄
          at_4 = next (query_laws N l) 0 1088 R4.post (all_of 0 1088) (k4 h.0) at_3

          listed : 0 < count_of st₄ x
          unfolding count_of
          listed = omega (arith, R4.post.then.holds.stored.marked, clear_kept st₄ x 6 (omega arith))

          inside : 2 * (start_of st₄ x + (count_of st₄ x - 1)) ≤ length tr₄
          unfolding count_of start_of
          inside = omega (
            arith,
            (H4.working.ready.ordered.worked.lists.held x (held_state H4 x (here H4))).inside (get_or (clear st₄) (12 * x + 6) 0 - 1) (omega (arith, listed, clear_kept st₄ x 6 (omega arith))),
            H4.working.ready.ordered.worked.lists.fit,
            clear_kept st₄ x 5 (omega arith),
            clear_kept st₄ x 6 (omega arith),
          )

          targets : (g : Edge) → Memᴰ g es → g.target < states (tables_in x₄).base.aut
          targets g m = (R4.post.then.holds.edges g m).known

          target_in : (i : ℕ) → i < count_of st₄ x - 1 → Memᴰ (edge_at tr₄ (start_of st₄ x + i)) es
          unfolding list_at
          target_in i lt = edge_in tr₄ (start_of st₄ x) (count_of st₄ x - 1) i lt

          pub visit_enqueue : PreEnqueue N st₄ tr₄ x₄.pending.now n x
          visit_enqueue = rw kept (record {
            few = H4.working.ready.ready.few;
            listed = record { state = held_there H4 x (here H4); some = listed; inside = inside };
            targets = λ i lt. held_fits H4 (get_or tr₄ (2 * (start_of st₄ x + i)) 0) (targets (edge_at tr₄ (start_of st₄ x + i)) (target_in i lt));
            fits = omega (arith, H4.room);
          })

          to_here : seconds p 0 head ++ x ∷ [] ≡ seconds p 0 (head + 1)
          to_here = rw is (seconds_to p head)

          parts : (seconds p 0 head ++ x ∷ []) ++ waiting ≡ seconds p 0 n
          parts = ap (λ (a : List ℕ). a ++ waiting) to_here ∙ seconds_parts p (head + 1) n (omega (arith, P.waits))

          module _ {x₅ : Lent} (only : OnlyMarks x₄ x₅) where
            abbrev st₅ : List ℕ
            st₅ = x₅.states.words.now

            abbrev p₅ : List ℕ
            p₅ = x₅.pending.now

            module _ {o : Option ℕ} (Q : PostEnqueue N n x o st₄ tr₄ x₄.pending.now st₅ p₅) where
              all : Enqueues N (capacity lent) es n st₄ p o st₅ p₅
              unfolding list_at
              all = subst (λ (q : List ℕ). Enqueues N (capacity (length q / 2)) es n st₄ q o st₅ p₅) kept Q

            pub visit_full : PostEnqueue N n x None st₄ tr₄ x₄.pending.now st₅ p₅ → Visits k head n x₀ (Err refusal.Pending) x₅
            visit_full Q = record {
              post = record {
                post = record {
                  is = at_4.is ∙ ap (λ (o : Outcome Tables (List ℕ)). after o (λ w. return (record { ends = h.0; waiting = w })))
                      (enqueue_refused refl H4 targets (all Q) (seconds p 0 head ++ x ∷ []) waiting parts (clear_in x₄));
                  then = tt;
                };
              };
              further = tt;
            }

            module _ {m : ℕ} (Q : PostEnqueue N n x (Some m) st₄ tr₄ x₄.pending.now st₅ p₅) where
              Mv : Moved N l (tables_in x₄) x₄.scratch.now p n st₅ p₅ m
              Mv = enqueue_moved refl H4 targets (all Q)

              ahead : (w : List ℕ) × ((seconds p 0 head ++ x ∷ []) ++ w ≡ seconds p₅ 0 m) × ((τ : Tables) → M.enqueue (capacity lent) es (seconds p 0 head ++ x ∷ []) waiting τ ≡ given τ w)
              ahead = enqueue_is refl H4 targets (all Q) (seconds p 0 head ++ x ∷ []) waiting parts

              -- the states up to x are as they were
              before : seconds p₅ 0 (head + 1) ≡ seconds p 0 (head + 1)
              before = seconds_same p p₅ 0 (head + 1) (λ i a b. Mv.low (2 * i + 1) (omega (arith, P.waits)))

              waiting_is : ahead.0 ≡ seconds p₅ (head + 1) (m - (head + 1))
              waiting_is = same_rest (seconds p 0 (head + 1)) ahead.0 (seconds p₅ (head + 1) (m - (head + 1)))
                  (ap (λ (a : List ℕ). a ++ ahead.0) (sym to_here) ∙ ahead.1 ∙ sym (seconds_parts p₅ (head + 1) m (omega (arith, P.waits, Mv.more)))
                  ∙ ap (λ (a : List ℕ). a ++ seconds p₅ (head + 1) (m - (head + 1))) before)

              live_is : (y : ℕ) → live_by N st₅ y ≡ live_at x h.0 (live_by N x₀.states.words.now) y
              live_is y = Mv.live y ∙ live_unwritten N (tables_in x₃) (tables_in x₄) R4.unwritten y
                  ∙ ap (λ (u : List ℕ). live_by N u y) w3 ∙ live_set N x₂.states.words.now x h.0 (omega (arith, visit_there)) y
                  ∙ ap (λ (v : ℕ). if eqb x y then h.0 else v) (live_unwritten N (tables_in x₁) (tables_in x₂) R2.unwritten y ∙ live_unwritten N (tables_in x₀) (tables_in x₁) R1.unwritten y)

              ends_is : live_by N st₅ x ≡ h.0
              ends_is = live_is x ∙ ap (λ (b : Bool). if b then h.0 else live_by N x₀.states.words.now x) (eq-eqb x x refl)

              -- of the entry's state
              ends_at : live_by N st₅ (visited_state x₀ head) ≡ h.0
              ends_at = subst (λ (i : ℕ). live_by N st₅ i ≡ h.0) is ends_is

              live_at_entry : (y : ℕ) → live_by N st₅ y ≡ live_at (visited_state x₀ head) h.0 (live_by N x₀.states.words.now) y
              live_at_entry y = subst (λ (i : ℕ). live_by N st₅ y ≡ live_at i h.0 (live_by N x₀.states.words.now) y) is (live_is y)

              tables : tables_in x₅ ≡ with_words st₅ (tables_in x₄)
              tables = tables_marked only

              cleared : clear_in x₅ ≡ clear_in x₄
              cleared = ap (λ (σ : Tables). clear_tables σ) tables ∙ ap (λ (u : List ℕ). with_words u (tables_in x₄)) Mv.clear

              at_5 : At (given (clear_in x₅) (visit_in k x₅ head (visited_state x₀ head) m)) x₅
              at_5 = rw only.scratch (subst (λ (τ : Tables). Stage (query_layer N l) 0 1088 whole (given τ (visit_in k x₅ head (visited_state x₀ head) m)) (clear_in x₀) τ x₀.scratch.now x₄.scratch.now) (sym cleared)
                  (instead (query_laws N l) 0 1088 at_4
                  (ap (λ (o : Outcome Tables (List ℕ)). after o (λ w. return (record { ends = h.0; waiting = w }))) (ahead.2 (clear_in x₄))
                  ∙ ap₂ (λ (a : ℕ) (b : List ℕ). given (clear_in x₄) (record { ends = a; waiting = b })) (sym ends_at) waiting_is)))

              pub visit_some : Visits k head n x₀ (Ok m) x₅
              visit_some = record {
                post = record { post = done (query_laws N l) 0 1088 at_5 tt };
                further = record {
                  held = rw tables (rw only.scratch Mv.held);
                  live = λ y. live_at_entry y ∙ ap (λ (v : ℕ). if eqb (visited_state x₀ head) y then v else live_by N x₀.states.words.now y) (sym ends_at);
                  low = Mv.low;
                  more = Mv.more;
                  doubled = Mv.doubled;
                };
              }

            pub visit_done : {r : Result ℕ Refusal} (o : Option ℕ) → PostEnqueue N n x o st₄ tr₄ x₄.pending.now st₅ p₅ → r ≡ ok_or o refusal.Pending → Visits k head n x₀ r x₅
            visit_done None Q q = rw q (visit_full Q)
            visit_done (Some m) Q q = rw q (visit_some Q)

-- ---- explore

explore_end : (N : ℕ) (l : Limits) (entries most : ℕ) (visited : List ℕ) (live : ℕ → ℕ) (σ : Tables) → M.explore N (limits_of l) entries most visited [] live σ ≡ given σ (found visited live)
unfolding M.explore
explore_end N l entries zero visited live σ = refl
explore_end N l entries (suc most) visited live σ = refl

-- from the tables x, y are come to: entries up to `head` are visited, of n
pub record Walking (k : Config) (x y : Lent) (n head : ℕ) : Type 0 where
  pub keeps : SameLent x y
  pub stage : Stage (query_layer k.fields k.limits) 0 1088 (exploring k x (clear_in x))
      (M.explore k.fields (limits_of k.limits) (length x.pending.now / 2) (capacity (length x.pending.now / 2) - head) (seconds y.pending.now 0 head) (seconds y.pending.now head (n - head)) (live_by k.fields y.states.words.now) (clear_in y))
      (clear_in x) (clear_in y) x.scratch.now y.scratch.now
  pub held : Held k.fields k.limits (tables_in y) y.scratch.now y.pending.now n n
  pub doubled : Doubled y.pending.now n
  pub most : head ≤ n

module _ {k : Config} {x₀ : Lent} (P : ExploreAsked k x₀) where
  pub explore_begin : Walking k x₀ x₀ 1 0
  explore_begin = record {
    keeps = keeps_refl x₀;
    stage = begin (query_laws k.fields k.limits) 0 1088 P.held.working.ready
        (ap₂ (λ (a b : ℕ). M.explore k.fields (limits_of k.limits) (length x₀.pending.now / 2) a (seconds x₀.pending.now 0 0) (seconds x₀.pending.now 0 b) (live_by k.fields x₀.states.words.now) (clear_in x₀))
        {x = capacity (length x₀.pending.now / 2)} {y = capacity (length x₀.pending.now / 2) - 0} {u = 1} {v = 1 - 0} (omega arith) (omega arith));
    held = P.held;
    doubled = P.doubled;
    most = omega arith;
  }

  module _ {y : Lent} {n head : ℕ} (v : Walking k x₀ y n head) where
    pub explore_asks : head < n → VisitAsked k y head n
    explore_asks lt = record { fields = v.keeps.spp.fields ∙ P.fields; held = v.held; waits = lt }

    module _ (lt : head < n) where
      abbrev rest : Visit → Step Tables Found
      rest w = M.explore k.fields (limits_of k.limits) (length x₀.pending.now / 2) (capacity (length x₀.pending.now / 2) - (head + 1)) (seconds y.pending.now 0 head ++ visited_state y head ∷ []) w.waiting
          (live_at (visited_state y head) w.ends (live_by k.fields y.states.words.now))

      turn : Stage (query_layer k.fields k.limits) 0 1088 (exploring k x₀ (clear_in x₀)) (after (visiting k y head n (clear_in y)) rest) (clear_in x₀) (clear_in y) x₀.scratch.now y.scratch.now
      unfolding M.explore
      turn = instead (query_laws k.fields k.limits) 0 1088 v.stage
          (ap₂ (λ (a : ℕ) (b : List ℕ). M.explore k.fields (limits_of k.limits) (length x₀.pending.now / 2) a (seconds y.pending.now 0 head) b (live_by k.fields y.states.words.now) (clear_in y))
          {x = capacity (length x₀.pending.now / 2) - head} {y = suc (capacity (length x₀.pending.now / 2) - (head + 1))} (omega (arith, lt, v.held.room, v.keeps.pending.length)) (seconds_on y.pending.now n head lt)
          ∙ ap (λ (m : ℕ). after (M.visit k.fields (limits_of k.limits) (m / 2) (visited_state y head) (seconds y.pending.now 0 head) (seconds y.pending.now (head + 1) (n - (head + 1))) (clear_in y)) rest) (sym v.keeps.pending.length))

      module _ {z : Lent} where
        pub explore_stuck : {r : Result ℕ Refusal} {e : Refusal} → r ≡ Err e → Visits k head n y (Err e) z → Explores k x₀ r z
        explore_stuck q A = rw q (record { post = record { post = stuck (query_laws k.fields k.limits) 0 1088 A.post.post rest turn }; held = tt; doubled = tt })

        pub explore_again : {m : ℕ} → SameLent y z → Visits k head n y (Ok m) z → Walking k x₀ z m (head + 1)
        explore_again {m} same A =
            let w : Further k y head n z m = A.further in
            record {
              keeps = keeps_trans v.keeps same;
              stage = instead (query_laws k.fields k.limits) 0 1088 (next (query_laws k.fields k.limits) 0 1088 A.post.post (all_of 0 1088) rest turn)
                  (ap₂ (λ (a : List ℕ) (b : ℕ → ℕ). M.explore k.fields (limits_of k.limits) (length x₀.pending.now / 2) (capacity (length x₀.pending.now / 2) - (head + 1)) a (seconds z.pending.now (head + 1) (m - (head + 1))) b (clear_in z))
                  (seconds_to y.pending.now head ∙ sym (seconds_same y.pending.now z.pending.now 0 (head + 1) (λ i a b. w.low (2 * i + 1) (omega (arith, lt))))) (sym (fun_ext w.live)));
              held = w.held;
              doubled = w.doubled v.doubled;
              most = omega (arith, lt, w.more);
            }

    pub explore_over : n ≤ head → Explores k x₀ (Ok n) y
    explore_over le = record {
      post = record {
        post = done (query_laws k.fields k.limits) 0 1088
            (instead (query_laws k.fields k.limits) 0 1088 v.stage
            (ap₂ (λ (a : ℕ) (b : List ℕ). M.explore k.fields (limits_of k.limits) (length x₀.pending.now / 2) (capacity (length x₀.pending.now / 2) - head) (seconds y.pending.now 0 a) b (live_by k.fields y.states.words.now) (clear_in y))
            {x = head} {y = n} (omega (arith, v.most, le)) (seconds_done y.pending.now head n head le)
            ∙ explore_end k.fields k.limits (length x₀.pending.now / 2) (capacity (length x₀.pending.now / 2) - head) (seconds y.pending.now 0 n) (live_by k.fields y.states.words.now) (clear_in y)))
            tt;
      };
      held = v.held;
      doubled = v.doubled;
    }
