-- why_sets: the live sets are worked out and kept, then the rounds; their laws (aut_why_steps) say that they stand.
use Rattle.std.specs.Prelude.{Option, Result, Ok, Err}
use mathlib.Core.Path.{◌≡◌, refl, sym, ◌∙◌, ap, subst}
use mathlib.Core.List.{List, [], ◌∷◌, Memᴰ}
use Prim.Native.Nat.{ℕ, ◌+◌, ◌*◌, ◌/◌, ◌≤◌, ◌<◌}
use native.Mathlib.Omega.{arith}
use lib.Dec.{eqb, ltb}
use lib.ListN.{length, get_or, set}
use lib.Seq.{get_or-set_other}
use borrow.Author.Tests.{eqb-true, eqb-false, ltb-true, ltb-false}
use Rattle.common.specs.Outcome.{Outcome, Step, return, after}
use Rattle.common.proofs.Follow.{given_of}
use Rattle.common.specs.Runs.{Table}
use Rattle.refusal.specs.declared.Refusal.{Refusal}
use Rattle.spp_steps.proofs.Laws.{by_test}
use Rattle.aut_steps.specs.Tables.{put_states}
use Rattle.aut_delta_steps.specs.Delta.{store}
use Rattle.aut_query_steps.specs.Tables.{Tables, put_base, ExtTables, WfTables}
use Rattle.aut_query_steps.proofs.Tables.{later_trans}
use Rattle.aut_query_steps.proofs.Steps.{ends_gives}
use Rattle.aut_query_steps.specs.Search.{capacity}
use Rattle.aut_query_steps.specs.Live.{Found, found, keep_lives, live_sets}
use Rattle.aut_query_steps.specs.Explored.{Linked}
use Rattle.aut_query_steps.proofs.LiveLaws as LiveLaws
use Rattle.aut_query_steps.proofs.LiveLaws.{kept_later, kept_ordered}
use Rattle.aut_why_steps.specs.Why.{Sets, Rounds, rounds_of, why_sets, Again}
use Rattle.aut_why_steps.proofs.WhyLaws.{linked_ext, Whyed, why_sets_ends}
use Rattle.aut_query_stage.specs.Layer.{QueryReady}
use Rattle.aut_query_stage.specs.Lent.{tables_in, QueryAsked, Leaves, query_layer}
use Rattle.aut_query_stage.proofs.Lent.{query_ready, query_laws}
use Rattle.aut_states.specs.Clauses.{limits_of}
use Rattle.aut_states.specs.declared.Config.{Config}
use Rattle.aut_stage.specs.Rule.{Stage, Post}
use Rattle.aut_stage.proofs.Rule.{begin, next, stuck}
use Rattle.aut_relations.specs.declared.Aut.{Aut as Lent}
use Rattle.aut_sets.specs.Lent.{OnlyMarks}
use Rattle.aut_free.specs.Clear.{clear_tables}
use Rattle.aut_free.proofs.Free.{clear_keep_lives}
use Rattle.aut_query_calls.specs.Working.{clear_in, Working}
use Rattle.aut_live_words.specs.Work.{work_of, live_by, seconds, copy_words}
use Rattle.aut_live_words.specs.Clauses.{PreKeep}
use Rattle.aut_live_words.proofs.Words.{copy_other}
use Rattle.aut_live_words.proofs.Held.{tables_marked, live_reached, held_reached, held_listed, held_second, held_there}
use Rattle.aut_query_calls.specs.Working.{with_words}
use Rattle.aut_live.specs.Clauses.{SetsAt}
use Rattle.aut_live.proofs.Living.{kept_is}
use Rattle.aut_why_words.specs.Walk.{Walk}
use Rattle.aut_why.specs.Loop.{AllAsked, all_rounds, AllAt}
use Rattle.aut_why.specs.Clauses.{as_rounds, WhyAt}

-- words behind the states are not written
keep_fresh : (xs st : List ℕ) (k j : ℕ) → ((x : ℕ) → Memᴰ x xs → x < k) → 12 * k ≤ j → get_or (copy_words 9 7 xs st) j 0 ≡ get_or st j 0
unfolding copy_words work_of
keep_fresh [] st k j f l = refl
keep_fresh (x ∷ xs) st k j f l =
    keep_fresh xs (set st (12 * x + 7) (work_of st x)) k j (λ y m. f y (Memᴰ.tail m)) l
    ∙ get_or-set_other st (12 * x + 7) j (work_of st x) 0 (λ q. omega (arith, f x (Memᴰ.head refl)))

module _ {k : Config} {x : Lent} {i : ℕ} (P : QueryAsked k x i) where
  abbrev N : ℕ
  N = k.fields

  abbrev lent : ℕ
  lent = length x.pending.now / 2

  abbrev whole : Outcome Tables Rounds
  whole = why_sets N (limits_of k.limits) lent i (tables_in x)

  abbrev then_rounds : Found → Step Tables Rounds
  then_rounds = rounds_of N (limits_of k.limits) lent

  at_first : Stage (query_layer N k.limits) 0 1088 whole (after (live_sets N (limits_of k.limits) lent i (tables_in x)) then_rounds) (tables_in x) (tables_in x) x.scratch.now x.scratch.now
  unfolding why_sets
  at_first = begin (query_laws N k.limits) 0 1088 P.query.ready refl

  pub why_refused : {e : Refusal} {y : Lent} → SetsAt k i x (Err e) y → WhyAt k i x (Err e) y
  why_refused S = record { sets = []; post = stuck (query_laws N k.limits) 0 1088 S.post then_rounds at_first; why = tt }

  module _ {n : ℕ} {y : Lent} (S : SetsAt k i x (Ok n) y) where
    abbrev ss : List ℕ
    ss = seconds y.pending.now 0 n

    abbrev live : ℕ → ℕ
    live = live_by N y.states.words.now

    reach : LiveLaws.Reached N (limits_of k.limits) (capacity lent) i (tables_in x) (clear_in y) (found ss live)
    reach = given_of (ends_gives (LiveLaws.sets_ends lent P.query.ready.ordered P.query.has)) S.post.is

    pub why_keeps : PreKeep y.states.words.now y.pending.now n
    why_keeps = record { fits = omega (arith, S.held.room); states = λ j a. held_there S.held (get_or y.pending.now (2 * j + 1) 0) (held_second S.held j a) }

    abbrev kept : Tables
    kept = keep_lives ss live (clear_in y)

    later_2 : ExtTables (clear_in y) kept
    later_2 = kept_later (clear_in y) ss live reach.ordered reach.links reach.lives

    ordered_2 : WfTables N (limits_of k.limits) kept
    ordered_2 = kept_ordered (clear_in y) ss live reach.ordered reach.links reach.lives

    module _ {z : Lent} (K : OnlyMarks y z) (p : z.pending ≡ y.pending) (E : z.states.words.now ≡ copy_words 9 7 ss y.states.words.now) where
      kept_tables : clear_in z ≡ kept
      kept_tables =
          ap clear_tables (tables_marked K) ∙ ap (λ (u : List ℕ). clear_tables (with_words u (tables_in y))) E
          ∙ ap (λ (u : Table). clear_tables (put_base (store (put_states u (tables_in y).base.aut) (tables_in y).base.transitions) (tables_in y)))
          (kept_is ss live y.states.words.now y.states.count (λ v m. let a = held_reached S.held v m in omega (arith, live_reached N y.states.words.now v a, a)))
          ∙ clear_keep_lives ss live (tables_in y)

      working_2 : Working N k.limits (tables_in z) z.scratch.now
      working_2 = rw K.scratch (record {
        ready = subst (λ (τ : Tables). QueryReady N k.limits τ y.scratch.now) (sym kept_tables) (query_ready S.held.working.ready later_2 ordered_2 ((query_laws N k.limits).frame_refl 0 0 kept y.scratch.now) refl);
        fresh = λ j l. ap (λ (u : List ℕ). get_or u j 0) E ∙ keep_fresh ss y.states.words.now y.states.count j (λ v m. (reach.links v m).known) (rw (sym K.count) l) ∙ S.held.working.fresh j (rw (sym K.count) l);
      })

      walk_at : Walk N k.limits (tables_in z) z.scratch.now y.pending.now n
      unfolding work_of
      walk_at = record {
        working = working_2;
        links = λ v m. subst (λ (τ : Tables). Linked τ.base ss v) (sym kept_tables) (linked_ext reach.ordered.worked later_2 (reach.links v m));
        rest = λ v w a b no. ap (λ (u : List ℕ). get_or u (12 * v + w) 0) E ∙ copy_other 9 7 (omega arith) ss y.states.words.now v w b (λ q. omega arith) ∙ by_test (eqb w 9)
            (λ e. subst (λ (w : ℕ). get_or y.states.words.now (12 * v + w) 0 ≡ 0) (sym (eqb-true w 9 e)) (by_test (ltb 0 (get_or y.states.words.now (12 * v + 9) 0))
            (λ t. absurd (no (held_listed S.held v (ltb-true 0 (get_or y.states.words.now (12 * v + 9) 0) t))))
            (λ t. omega (arith, ltb-false 0 (get_or y.states.words.now (12 * v + 9) 0) t))))
            (λ e. S.held.rest v w a b (eqb-false w 9 e));
        first = λ j. S.held.todo j (omega arith);
        after = S.held.after;
        room = S.held.room;
      }

      pub why_all : AllAsked k z n i
      why_all = rw p (record { walk = walk_at; among = reach.has })

      -- the run so far; the rounds are those of the states in the entries
      abbrev then_told : List Sets → Step Tables Rounds
      then_told ws = return (as_rounds ss ws)

      later_3 : ExtTables (tables_in x) (clear_in z)
      later_3 = later_trans S.post.then.ext (subst (λ (τ : Tables). ExtTables (clear_in y) τ) (sym kept_tables) later_2)

      frame_3 : Leaves N 0 1088 (clear_in z) x.scratch.now z.scratch.now
      frame_3 = rw K.scratch ((query_laws N k.limits).frame_trans 0 1088 (clear_in y) (clear_in z) x.scratch.now y.scratch.now y.scratch.now
          (subst (λ (τ : Tables). ExtTables (clear_in y) τ) (sym kept_tables) later_2) S.post.then.frame ((query_laws N k.limits).frame_refl 0 1088 (clear_in z) y.scratch.now))

      at_rounds : Stage (query_layer N k.limits) 0 1088 whole (after (all_rounds N ss (clear_in z)) then_told) (tables_in x) (clear_in z) x.scratch.now z.scratch.now
      unfolding rounds_of
      at_rounds = record {
        ext = later_3;
        frame = frame_3;
        ready = working_2.ready;
        is = at_first.is ∙ ap (λ (o : Outcome Tables Found). after o then_rounds) S.post.is ∙ ap (λ (τ : Tables). after (all_rounds N ss τ) then_told) (sym kept_tables);
      }

      same : z.pending.now ≡ y.pending.now
      same = rw p refl

      module _ {r : Result (Option ℕ) Refusal} {w : Lent} (B : AllAt k n i z r w) where
        all_post : Post (query_layer N k.limits) 0 0 (λ τ w. Unit) (λ (f : Option ℕ). B.sets) (all_rounds N ss (clear_in z)) (clear_in z) r (clear_in w) z.scratch.now w.scratch.now
        all_post = subst (λ (t : List ℕ). Post (query_layer N k.limits) 0 0 (λ τ w. Unit) (λ (f : Option ℕ). B.sets) (all_rounds N (seconds t 0 n) (clear_in z)) (clear_in z) r (clear_in w) z.scratch.now w.scratch.now) same B.post.post

      pub why_stuck : {e : Refusal} {w : Lent} → AllAt k n i z (Err e) w → WhyAt k i x (Err e) w
      why_stuck B = record { sets = []; post = stuck (query_laws N k.limits) 0 1088 (all_post B) then_told at_rounds; why = tt }

      pub why_done : {f : Option ℕ} {w : Lent} → w.pending ≡ z.pending → AllAt k n i z (Ok f) w → WhyAt k i x (Ok (n, f)) w
      why_done {f} {w} q B = record { sets = B.sets; post = post_on; why = record { standing = record { walk = B.ended.walk; again = again_on }; hops = B.ended.hops; few = B.ended.few; among = among_on } }
        where
          to : w.pending.now ≡ y.pending.now
          to = rw q same

          told : Stage (query_layer N k.limits) 0 1088 whole (then_told B.sets (clear_in w)) (tables_in x) (clear_in w) x.scratch.now w.scratch.now
          told = next (query_laws N k.limits) 0 1088 (all_post B) (record { from = omega arith; to = omega arith }) then_told at_rounds

          law : Whyed N (limits_of k.limits) lent i (tables_in x) (clear_in w) (as_rounds ss B.sets)
          law = given_of (ends_gives (why_sets_ends lent P.query.ready.ordered P.query.has)) told.is

          post_on : Post (query_layer N k.limits) 0 1088 (λ τ w. Unit) (λ (v : ℕ × Option ℕ). as_rounds (seconds w.pending.now 0 v.0) B.sets) whole (tables_in x) (Ok (n, f)) (clear_in w) x.scratch.now w.scratch.now
          post_on = rw to (record { is = told.is; then = record { ext = told.ext; frame = told.frame; ready = told.ready; holds = tt } })

          again_on : Again N (seconds w.pending.now 0 n) (clear_in w) B.sets
          again_on = rw to law.again

          among_on : Memᴰ i (seconds w.pending.now 0 n)
          among_on = rw to law.has
